-- `next` meets its contract: the step past the whole choice, if it is one. Assumes nothing.
use Rattle.std.proofs.Common.{◌≡◌, sym, ◌∙◌, length, arith, rules}
use Rattle.peptide_choices.specs.SuccessorLaws.{no_successor, one-fits, past-whole}
use Rattle.peptide_choices.proofs.choice.Choice.next.Goals as goal

pub next_past-requires : goal.next_past-requires
next_past-requires c =
    let p = c.args.self in
    let l : length p.at ≡ 8 = search rules in
    omega (arith, one-fits p (c.is_one.ensures.0 c.if-is_one.true))

pub returns-then-is_one : goal.returns-then-is_one
returns-then-is_one c = c.next_past.ensures ∙ past-whole c.args.self (c.is_one.ensures.0 c.if-is_one.true)

pub returns : goal.returns
returns c = sym (no_successor c.args.self (c.is_one.ensures.1 c.if-is_one.false))
