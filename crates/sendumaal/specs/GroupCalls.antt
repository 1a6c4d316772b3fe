-- What the calls on groups leave: as in Calls, *place first, then *count, then the work memory and the lists in argument order.
use Rattle.std.specs.Prelude.{ℕ, ◌≡◌, List}
use Rattle.records.specs.Outcome.{Outcome, outcome, only}
use Rattle.digest_groups_spec.specs.DigestGrouping.{digest_groups_outcome}
use Rattle.cover.specs.Covering.{cover_outcome}
use Rattle.cover.specs.Updating.{update_outcome}
use Rattle.sendumaal_calls.specs.Calls.{counted_call}

abbrev pub group_call : List ℕ → List ℕ → List ℕ → List ℕ → List ℕ → List ℕ → List ℕ → ℕ → Outcome ℕ
group_call names bounds letters digests work groups proteins count = counted_call (digest_groups_outcome names bounds letters digests work groups proteins) count

abbrev pub cover_call : List ℕ → ℕ → ℕ → List ℕ → List ℕ → ℕ → Outcome ℕ
cover_call edges groups metas work marks count = counted_call (cover_outcome edges groups metas work marks) count

abbrev pub update_call : List ℕ → List ℕ → ℕ → ℕ → List ℕ → List ℕ → List ℕ → ℕ → Outcome ℕ
update_call old new groups metas given work marks count = counted_call (update_outcome old new groups metas given work marks) count

-- no second number and no second results meet the contracts
pub group_call_only : (names bounds letters digests work groups proteins : List ℕ) (count : ℕ) (n m : ℕ) (k l : List (List ℕ))
    → outcome n k ≡ group_call names bounds letters digests work groups proteins count → outcome m l ≡ group_call names bounds letters digests work groups proteins count → (n ≡ m) × (k ≡ l)
group_call_only names bounds letters digests work groups proteins count n m k l = only n m k l (group_call names bounds letters digests work groups proteins count)

pub cover_call_only : (edges : List ℕ) (groups metas : ℕ) (work marks : List ℕ) (count : ℕ) (n m : ℕ) (k l : List (List ℕ))
    → outcome n k ≡ cover_call edges groups metas work marks count → outcome m l ≡ cover_call edges groups metas work marks count → (n ≡ m) × (k ≡ l)
cover_call_only edges groups metas work marks count n m k l = only n m k l (cover_call edges groups metas work marks count)

pub update_call_only : (old new : List ℕ) (groups metas : ℕ) (given work marks : List ℕ) (count : ℕ) (n m : ℕ) (k l : List (List ℕ))
    → outcome n k ≡ update_call old new groups metas given work marks count → outcome m l ≡ update_call old new groups metas given work marks count → (n ≡ m) × (k ≡ l)
update_call_only old new groups metas given work marks count n m k l = only n m k l (update_call old new groups metas given work marks count)
