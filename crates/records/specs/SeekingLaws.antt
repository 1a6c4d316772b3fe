-- The turns of a loop that seeks the first of n places to pass a test, and what it tells. Assumes nothing.
use Rattle.std.specs.Prelude.{ℕ, ◌+◌, ◌-◌, ◌≤◌, ◌<◌, ◌≡◌, refl, Bool, true, false, ltb}
use Rattle.std.proofs.Common.{sym, ◌∙◌, arith, ltb-false}
use Rattle.records.specs.declared.refusal.Refusal.TheVariants.{Field}
use Rattle.records.specs.Answers.{Passed}
use Rattle.records.specs.Tested.{field_tested}
use Rattle.records.specs.TestedLaws.{passed_first}
use Rattle.records.specs.Search.{seek}
use Rattle.records.specs.SearchLaws.{seek-start, seek-on, seek_stop, seek_end, seek_before}

-- what is sought from i on is the place found
pub record Seeking (p : ℕ → Bool) (n i found : ℕ) : Type 0 where
  pub rest : seek p i (n - i) ≡ found

pub seeking_all : {p : ℕ → Bool} {n : ℕ} → Seeking p n 0 (seek p 0 n)
seeking_all {p} {n} = record { rest = seek-start p n }

pub seeking_from : {p : ℕ → Bool} {n i : ℕ} → Seeking p n i (seek p i (n - i))
seeking_from = record { rest = refl }

module _ {p : ℕ → Bool} {n i found : ℕ} (c : Seeking p n i found) where
  pub seeking_stop : i < n → p i ≡ true → i ≡ found
  seeking_stop h e = sym (seek_stop p i n h e) ∙ c.rest

  pub seeking_on : i < n → p i ≡ false → Seeking p n (i + 1) found
  seeking_on h e = record { rest = sym (seek-on p i n h e) ∙ c.rest }

  pub seeking_end : n ≤ i → i ≡ found
  seeking_end h = sym (seek_end p i n h) ∙ c.rest

-- where none was found, none passes
pub none_found : (p : ℕ → Bool) (n : ℕ) → ltb (seek p 0 n) n ≡ false → (i : ℕ) → i < n → p i ≡ false
none_found p n e i h = seek_before p 0 n i (omega arith) (omega (arith, ltb-false (seek p 0 n) n e))

pub none-tested : (p : ℕ → Bool) (n : ℕ) → field_tested (seek p 0 n) n ≡ Passed → (i : ℕ) → i < n → p i ≡ false
none-tested p n e = none_found p n (passed_first (ltb (seek p 0 n) n) (Field (seek p 0 n)) Passed e).0
