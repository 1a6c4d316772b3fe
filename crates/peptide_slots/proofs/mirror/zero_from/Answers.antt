-- `zero_from` meets its contract. The invariant: what was seen and what is left give the whole. Assumes nothing.
use Rattle.std.proofs.Common.{◌≡◌, ◌-◌, length, take, drop, refl, ap, ◌∙◌, arith, rules, take_all, length-drop}
use Rattle.peptide_slots.specs.Mirror.{all_zero}
use Rattle.peptide_slots.specs.MirrorLaws.{zero-on, zero_end}
use Rattle.peptide_slots.proofs.mirror.zero_from.Goals as goal

pub loop-x-init : goal.loop-x-init
loop-x-init c = refl

pub loop-x-preserved : goal.loop-x-preserved
loop-x-preserved c =
    let l = c.loop-x in
    zero-on l.all (take (64 - c.args.n) (drop c.args.n c.args.xs)) l.x-index c.loop-x-test.true ∙ l.invariant

pub returns : goal.returns
returns c =
    let a = c.args in
    let l = c.loop-x in
    let k : length a.xs ≡ 64 = search rules in
    zero_end l.all (take (64 - a.n) (drop a.n a.xs)) l.x-index c.loop-x-test.false
    ∙ l.invariant
    ∙ ap all_zero (take_all (64 - a.n) (drop a.n a.xs) (omega (arith, length-drop a.n a.xs)))
