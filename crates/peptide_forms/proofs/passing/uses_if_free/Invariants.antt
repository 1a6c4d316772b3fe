-- `uses_if_free` meets its contract. The invariant: what was seen and what is left give the whole. Assumes nothing.
use Rattle.peptide_forms.specs.TurnLaws.{UsesTallied}
use Rattle.peptide_forms.proofs.passing.uses_if_free.Given as goal

abbrev pub invariant-loop-place : goal.invariant-loop-place
invariant-loop-place l = UsesTallied l.sites l.slot l.rule l.places l.place-index l.free l.uses
