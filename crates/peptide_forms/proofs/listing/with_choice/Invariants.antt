-- `with_choice` meets its contract. The invariant: what is left of the chosen sites gives the whole. Assumes nothing.
use Rattle.std.proofs.Common.{◌≡◌, drop}
use Rattle.peptide_forms.specs.Packed.{packed_chosen}
use Rattle.peptide_slots.specs.Filling.{apply}
use Rattle.peptide_forms.proofs.listing.with_choice.Given as goal

abbrev pub invariant-loop-place : goal.invariant-loop-place
invariant-loop-place l = apply l.rules l.out.slots (drop l.place-index (packed_chosen l.sites l.place-items)) ≡ apply l.rules l.initial.out.slots (packed_chosen l.sites l.place-items)
