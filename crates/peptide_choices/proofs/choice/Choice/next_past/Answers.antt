-- `next_past` meets its contract: by the last place that can move. Assumes nothing.
use Rattle.std.proofs.Common.{suc, ◌+◌, min, ◌≡◌, append_assoc, length, arith, rules}
use Rattle.peptide_choices.specs.StepLaws.{step_none, step_some}
use Rattle.peptide_choices.specs.Steps.{stepped, stepped_to}
use Rattle.peptide_choices.proofs.choice.Choice.next_past.Goals as goal

pub returns-in_err-i : goal.returns-in_err-i
unfolding stepped stepped_to
returns-in_err-i c =
    let p = c.args.self in
    let kept = c.args.kept in
    let l : length p.at ≡ 8 = search rules in
    let e : c.min-e.result ≡ min (kept + 1) p.n = omega arith in
    rw (step_none p.at p.n p.m (suc kept) (omega arith) (λ j a b. c.in_err-i.ensures.none j (omega arith))) (search rules)

pub returns : goal.returns
unfolding stepped stepped_to
returns c =
    let p = c.args.self in
    let kept = c.args.kept in
    let i = c.in_ok-i.i in
    let w = c.in_ok-i.ensures.found in
    let l : length p.at ≡ 8 = search rules in
    let e : c.min-e.result ≡ min (kept + 1) p.n = omega arith in
    rw (
      step_some p.at p.n p.m i (suc kept) (omega arith) (omega arith) (omega (arith, w.0)) w.1 (λ j a f b. w.2 j a (omega arith)),
      c.refilled-at.ensures,
      append_assoc,
    )
