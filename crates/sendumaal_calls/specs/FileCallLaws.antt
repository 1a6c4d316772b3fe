-- What the code of the call on a sequence file shows, in the words of its definition. Assumes nothing.
use Rattle.std.specs.Prelude.{ℕ, ◌≡◌, List}
use Rattle.std.proofs.Common.{ap, ◌∙◌}
use Rattle.records.specs.Outcome.{Outcome, outcome}
use Rattle.fasta.specs.Entries.{Read, read_outcome}
use Rattle.sendumaal_calls.specs.Calls.{with_lent}
use Rattle.sendumaal_calls.specs.FileCalls.{EntryArguments, found_call, entry_call}

pub entry_said : (a : EntryArguments) (r : Read) (lent : List (List ℕ)) → outcome r lent ≡ read_outcome a.bytes a.at a.name a.letters
    → (n : ℕ) (k : List (List ℕ)) → outcome n k ≡ found_call r a.next a.count a.found → with_lent (outcome n k) lent ≡ entry_call a
entry_said a r lent e n k f =
    ap (λ (o : Outcome ℕ). with_lent o lent) f
    ∙ ap (λ (o : Outcome Read). with_lent (found_call o.answer a.next a.count a.found) o.lent) e
