-- `take_proteins` meets its contract: the numbers before i are replaced. Assumes nothing.
use Prim.Native.Nat.{ℕ, ◌+◌, ◌*◌, ◌≤◌}
use native.Mathlib.Omega.{arith}
use mathlib.Core.Path.{◌≡◌, sym, subst}
use mathlib.Core.Logic.{inr}
use lib.ListN.{length, get_or}
use Rattle.enzyme_keep.specs.Digests.{protein_in}
use Rattle.digest_groups_spec.specs.DigestGroups.{digest_at}
use Rattle.digest_groups_runs.specs.Turns.{Replaced}
use Rattle.digest_groups_runs.specs.TurnLaws.{replaced_none, replaced_more}
use Rattle.digest_groups_runs.proofs.groups.take_proteins.Goals as goal

pub loop-i-init : goal.loop-i-init
loop-i-init c = replaced_none

pub protein_of-requires : goal.protein_of-requires
protein_of-requires c =
    let a = c.args in
    let l = c.loop-i in
    let e : get_or l.w l.i 0 ≡ get_or a.w.now l.i 0 = l.invariant.rest l.i (inr (omega arith)) in
    subst (λ (x : ℕ). 20 * x + 20 ≤ length a.digests.now) (sym e) (c.requires.2 l.i (omega arith) (omega arith))

pub loop-i-preserved : goal.loop-i-preserved
loop-i-preserved c =
    let a = c.args in
    let l = c.loop-i in
    let r = l.invariant in
    rw c.protein_of.ensures (replaced_more (omega arith) (omega (arith, r.same_length, c.requires.1)) r)

pub returns : goal.returns
returns c =
    let a = c.args in
    let l = c.loop-i in
    let e : l.i ≡ a.hi = omega arith in
    subst (λ (k : ℕ). Replaced (λ (x : ℕ). protein_in (digest_at a.digests.now x)) a.w.now l.w a.lo k) e l.invariant
