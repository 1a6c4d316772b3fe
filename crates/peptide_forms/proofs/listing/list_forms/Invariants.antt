-- `list_forms` meets its contract. `Outer` and `Here` carry it: what stands in the buffer and what is still to come are all
-- forms. Assumes nothing.
use Rattle.std.proofs.Common.{length}
use Rattle.peptide_choices.specs.LoopLaws.{count_left}
use Rattle.peptide_forms.specs.LoopLaws.{Here, Outer}
use Rattle.peptide_forms.specs.Passing.{packed_passes}
use Rattle.peptide_forms.specs.RunLaws.{quick}
use Rattle.peptide_forms.proofs.listing.list_forms.Given as goal

abbrev pub invariant-loop-left : goal.invariant-loop-left
invariant-loop-left l = Here (packed_passes l.sites l.rules) (quick l.bare.slots l.table.slots l.sites l.rules) (length l.sites) l.limit l.cap l.n l.room l.initial.count l.initial.out l.out l.count l.left

abbrev pub decreases-loop-left : goal.decreases-loop-left
decreases-loop-left l = count_left (length l.sites) l.n l.left

abbrev pub invariant-loop-n : goal.invariant-loop-n
invariant-loop-n l = Outer (packed_passes l.sites l.rules) (quick l.bare.slots l.table.slots l.sites l.rules) (length l.sites) l.limit l.cap l.room l.initial.out l.out l.count l.n
