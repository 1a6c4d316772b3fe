-- `push_places` meets its contract. The invariant: the places below k that are hit are written. Assumes nothing.
use Rattle.std.proofs.Common.{ℕ, Bool, List, get_or}
use Rattle.peptide_slots.specs.Hits.{hits_at}
use Rattle.peptide_slots.specs.SiteLaws.{HitsWritten}
use Rattle.peptide_slots.specs.declared.hits.Rule.{Rule}
use Rattle.peptide_slots.proofs.sites.push_places.Given as goal

-- the test at a place
abbrev pub test : Rule → List ℕ → ℕ → ℕ → Bool
test rule letters n k = hits_at rule.kind rule.position rule.letter n k (get_or letters k 0)

abbrev pub invariant-loop-k : goal.invariant-loop-k
invariant-loop-k l = HitsWritten (test l.rule l.letters l.n) l.rule.base l.n l.initial.out l.at l.out l.next l.k
