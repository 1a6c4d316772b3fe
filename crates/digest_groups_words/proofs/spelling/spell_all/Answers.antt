-- `spell_all` meets its contract: the first i digests stand in the tables. Assumes nothing.
use Prim.Native.Nat.{ℕ, ◌-◌, ◌+◌, ◌*◌}
use native.Mathlib.Omega.{arith}
use mathlib.Core.Path.{◌≡◌, subst}
use Rattle.digest_groups_spec.specs.DigestGroups.{digest_at}
use Rattle.digest_groups_words.specs.Tables.{DigestTables, digest_spelling}
use Rattle.digest_groups_words.specs.TableLaws.{tables-none, tables_more}
use Rattle.digest_groups_words.proofs.spelling.spell_all.Goals as goal

pub loop-i-init : goal.loop-i-init
loop-i-init c = let a = c.args in tables-none a.bounds.now a.letters.now a.digests.now a.n a.w.now

pub overflow_mul-at : goal.overflow_mul-at
overflow_mul-at c = let g = c.requires.0 in omega (arith, g.few)

pub overflow_add-at : goal.overflow_add-at
overflow_add-at c = let g = c.requires.0 in omega (arith, g.few)

pub slice_bounds-spelled-end : goal.slice_bounds-spelled-end
slice_bounds-spelled-end c = let g = c.requires.0 in omega (arith, g.whole)

pub spelled-s-requires : goal.spelled-s-requires
spelled-s-requires c =
    let i = c.loop-i.i in
    let n : 20 * i + 20 - 20 * i ≡ 20 = omega arith in
    rw n (c.requires.0.inside i (omega arith))

pub loop-i-preserved : goal.loop-i-preserved
loop-i-preserved c =
    let a = c.args in
    let l = c.loop-i in
    let n : 20 * l.i + 20 - 20 * l.i ≡ 20 = omega arith in
    let s : c.spelled-s.result ≡ digest_spelling a.bounds.now a.letters.now (digest_at a.digests.now l.i) = rw n at c.spelled-s.ensures in
    let t = tables_more a.bounds.now a.letters.now a.digests.now a.n l.i l.w (omega arith) (omega (arith, c.requires.1)) l.invariant in
    rw (c.put_spelling.ensures, s) t

pub returns : goal.returns
returns c =
    let a = c.args in
    let l = c.loop-i in
    let e : l.i ≡ a.n = omega arith in
    subst (λ (k : ℕ). DigestTables a.bounds.now a.letters.now a.digests.now a.n k l.w) e l.invariant
