-- `reach` meets its contract. The invariant: the first j places pass. Assumes nothing.
use Rattle.std.proofs.Common.{take}
use Rattle.peptide_forms.specs.TurnLaws.{PassesTo}
use Rattle.peptide_forms.proofs.passing.reach.Given as goal

abbrev pub invariant-loop-j : goal.invariant-loop-j
invariant-loop-j l = PassesTo l.sites l.rules (take l.c.n l.c.at) l.j
