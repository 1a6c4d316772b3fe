-- `count` meets its contract. Assumes nothing.
use mathlib.Core.Path.{◌≡◌, refl, ◌∙◌}
use lib.ListN.{length, length-set}
use native.Mathlib.Omega.{arith}
use Rattle.enzyme_codes.specs.Codes.{code_at}
use Rattle.enzyme_sifted.specs.SiftLaws.{seen_none, seen_more}
use Rattle.enzyme_sifted.proofs.counting.count.Goals as goal

pub loop-z-init : goal.loop-z-init
loop-z-init c = let a = c.args in (refl, refl, seen_none (code_at (length a.seen.now) a.letters.now a.starts.now) a.codes.now a.seen.now)

pub code_at-code-requires : goal.code_at-code-requires
code_at-code-requires c = c.requires.1 c.loop-z.z (omega arith)

pub loop-z-preserved : goal.loop-z-preserved
loop-z-preserved c =
    let a = c.args in
    let l = c.loop-z in
    let v = c.code_at-code.result in
    let turn = seen_more (code_at (length a.seen.now) a.letters.now a.starts.now) l.codes l.seen l.z v (omega arith) c.code_at-code.ensures l.invariant.2 in
    (length-set l.codes l.z v ∙ l.invariant.0, c.raise.auto.seen ∙ l.invariant.1, rw c.raise.ensures turn)

pub returns : goal.returns
returns c = let e : c.loop-z.z ≡ c.args.m = omega arith in rw e at c.loop-z.invariant.2

pub shape_of-codes : goal.shape_of-codes
shape_of-codes c = c.loop-z.invariant.0

pub shape_of-seen : goal.shape_of-seen
shape_of-seen c = c.loop-z.invariant.1
