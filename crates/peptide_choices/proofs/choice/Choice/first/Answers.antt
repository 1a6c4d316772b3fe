-- `first` meets its contract. The invariant: the first i places are 0, 1, .. . Assumes nothing.
use Rattle.std.proofs.Common.{ℕ, ◌<◌, ◌≡◌, List, length, set, replicate, refl, ap, ◌∙◌, arith, le-leb}
use Rattle.std.proofs.lemmas.Bool.{lt-leb}
use Rattle.peptide_choices.specs.StepLaws.{up_more}
use Rattle.peptide_choices.specs.Steps.{begun_choice, first_of, stepped_to}
use Rattle.peptide_choices.proofs.choice.Choice.first.Goals as goal

pub returns-then-m-n : goal.returns-then-m-n
unfolding begun_choice stepped_to first_of
returns-then-m-n c = rw (lt-leb c.args.n c.args.m c.if-m-n.true)

pub loop-i-init : goal.loop-i-init
loop-i-init c = refl

pub loop-i-preserved : goal.loop-i-preserved
loop-i-preserved c =
    let i = c.loop-i.i in
    let z : List ℕ = replicate 8 0 in
    let h : i < length z = omega arith in
    ap (λ (q : List ℕ). set q i i) c.loop-i.invariant ∙ up_more z i h

pub returns : goal.returns
unfolding begun_choice stepped_to first_of
returns c =
    let e : c.loop-i.i ≡ c.args.n = omega arith in
    rw (le-leb c.args.n c.args.m c.if-m-n.false, c.loop-i.invariant, e)
