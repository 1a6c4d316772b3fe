-- What the tests of a catalogue and of letters leave: as in Calls, *place alone.
use Rattle.std.specs.Prelude.{ℕ, ◌≡◌, List}
use Rattle.records.specs.Outcome.{Outcome, outcome, only}
use Rattle.catalogue_spec.specs.Names.{catalogue_tested}
use Rattle.catalogue_spec.specs.Books.{all_letters_tested}
use Rattle.sendumaal_calls.specs.Calls.{test_call}

abbrev pub names_call : List ℕ → Outcome ℕ
names_call names = test_call (catalogue_tested names)

abbrev pub letters_call : List ℕ → Outcome ℕ
letters_call letters = test_call (all_letters_tested letters)

-- no second number and no second place meet the contracts
pub names_call_only : (names : List ℕ) (n m : ℕ) (k l : List (List ℕ)) → outcome n k ≡ names_call names → outcome m l ≡ names_call names → (n ≡ m) × (k ≡ l)
names_call_only names n m k l = only n m k l (names_call names)

pub letters_call_only : (letters : List ℕ) (n m : ℕ) (k l : List (List ℕ)) → outcome n k ≡ letters_call letters → outcome m l ≡ letters_call letters → (n ≡ m) × (k ≡ l)
letters_call_only letters n m k l = only n m k l (letters_call letters)
