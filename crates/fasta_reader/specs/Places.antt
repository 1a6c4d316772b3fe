-- Where a reader of a sequence file stands.
use Rattle.std.specs.Prelude.{ℕ, ◌≡◌, refl, List, Some, None, Ok, Err}
use Rattle.std.proofs.Common.{sym, ap, ap₂, ◌∙◌}
use Rattle.records.specs.Outcome.{outcome, equal_only}
use Rattle.fasta.specs.declared.entry.Entry.{Entry}
use Rattle.fasta.specs.Entries.{Read, read_outcome, read_only}
use Rattle.fasta_reader.specs.declared.Reader.{Reader}

-- behind an entry that was found. Document 02, [1]: "After a refusal the reader stands where it stood."
abbrev pub place_after : Read → ℕ → ℕ
place_after (Ok (Some e)) at = e.next
place_after (Ok None) at = at
place_after (Err why) at = at

-- after any answer but an entry it stands where it stood
pub stands : (r : Read) (at : ℕ) → ((e : Entry) → r ≡ Ok (Some e) → ⊥) → place_after r at ≡ at
stands (Ok (Some e)) at none = absurd (none e refl)
stands (Ok None) at none = refl
stands (Err why) at none = refl

-- no second answer, no second contents and no second reader meet the contract of `next`
pub next_only : (old i j : Reader) (name letters : List ℕ) (r q : Read) (k l : List (List ℕ))
    → outcome r k ≡ read_outcome old.bytes.now old.at name letters → i.bytes ≡ old.bytes → i.at ≡ place_after r old.at
    → outcome q l ≡ read_outcome old.bytes.now old.at name letters → j.bytes ≡ old.bytes → j.at ≡ place_after q old.at → (r ≡ q) × (k ≡ l) × (i ≡ j)
next_only old i j name letters r q k l p b a s c d =
    let same = read_only old.bytes.now old.at name letters r q k l p s in
    let place : i.at ≡ j.at = a ∙ ap (λ (x : Read). place_after x old.at) same.0 ∙ sym d in
    (same.0, same.1, ap₂ (λ x n. record { bytes = x; at = n }) (equal_only i.bytes j.bytes old.bytes b c) place)
