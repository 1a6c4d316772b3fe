-- What the call on a sequence file leaves: as in Calls, *place first, then *next, *count and *found, then the name and the letters.
use Rattle.std.specs.Prelude.{ℕ, ◌≡◌, List, [], ◌∷◌, Some, None, Ok, Err}
use Rattle.records.specs.Outcome.{Outcome, outcome, only}
use Rattle.fasta.specs.Entries.{Read, fault_number, fault_place, read_outcome}
use Rattle.sendumaal_calls.specs.Calls.{accepted, with_lent}

-- the arguments in their order, and what the lent slices and the results hold at entry
pub record EntryArguments : Type 0 where
  pub bytes : List ℕ
  pub at : ℕ
  pub name : List ℕ
  pub letters : List ℕ
  pub next : ℕ
  pub count : ℕ
  pub found : ℕ

-- an entry: the place behind it, how many letters it has, and 1; where only line ends are left 0; a refusal leaves all three
abbrev pub found_call : Read → ℕ → ℕ → ℕ → Outcome ℕ
found_call (Ok (Some e)) next count found = accepted ((e.next ∷ []) ∷ (e.letters ∷ []) ∷ (1 ∷ []) ∷ [])
found_call (Ok None) next count found = accepted ((next ∷ []) ∷ (count ∷ []) ∷ (0 ∷ []) ∷ [])
found_call (Err why) next count found = outcome (fault_number why) ((fault_place why ∷ []) ∷ (next ∷ []) ∷ (count ∷ []) ∷ (found ∷ []) ∷ [])

abbrev pub entry_call : EntryArguments → Outcome ℕ
entry_call a =
    let o = read_outcome a.bytes a.at a.name a.letters in
    with_lent (found_call o.answer a.next a.count a.found) o.lent

-- no second number and no second results meet the contract
pub entry_call_only : (a : EntryArguments) (n m : ℕ) (k l : List (List ℕ)) → outcome n k ≡ entry_call a → outcome m l ≡ entry_call a → (n ≡ m) × (k ≡ l)
entry_call_only a n m k l = only n m k l (entry_call a)
