-- `keep_used` meets its contract. The invariant: of the first i sites those that may be used stand at the front. Assumes
-- nothing.
use Rattle.peptide_slots.specs.UsedLaws.{UsedFirst}
use Rattle.peptide_slots.proofs.sites.keep_used.Given as goal

abbrev pub invariant-loop-i : goal.invariant-loop-i
invariant-loop-i l = UsedFirst l.rules l.initial.out l.out l.i l.next
