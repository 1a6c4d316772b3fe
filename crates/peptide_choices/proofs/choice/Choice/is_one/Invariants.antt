-- `is_one` meets its contract. The invariant: the places from i on ascend from low exactly if all ascend. Assumes nothing.
use Rattle.peptide_choices.specs.SuccessorLaws.{Rest}
use Rattle.peptide_choices.proofs.choice.Choice.is_one.Given as goal

abbrev pub invariant-loop-i : goal.invariant-loop-i
invariant-loop-i l = Rest l.self.n l.self.m l.self.at l.low l.i
