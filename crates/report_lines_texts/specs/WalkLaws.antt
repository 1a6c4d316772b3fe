-- A group's text written along its walk: the turns of the code. Assumes nothing.
use Rattle.std.specs.Prelude.{ℕ, ◌+◌, ◌≤◌, ◌<◌, ◌≡◌, List, ◌∷◌, length, get_or, set}
use Rattle.std.proofs.Common.{arith}
use Rattle.lists.specs.KeyLaws.{Under}
use Rattle.report_lines_texts.specs.ByteLaws.{bytes_joined}
use Rattle.sorting_texts.specs.Text.{entry_text, joined_text}
use Rattle.sorting_texts.specs.Walk.{left_from, WalksOn}
use Rattle.sorting_texts.specs.WalkLaws.{left-start}
use Rattle.report_lines_texts.specs.WriteLaws.{Put, Coming, coming_all, coming_one, coming_done, coming_length}

-- the walk along the text at x stands at place i of the text of an entry, and what lies before is written
pub record Writing (names keys : List ℕ) (x : ℕ) (old : List ℕ) (at : ℕ) (new : List ℕ) (entry i k : ℕ) : Type 0 where
  pub coming : Coming old at (joined_text names keys x) new k (left_from names keys entry i)
  pub within : i ≤ length (entry_text names keys (get_or keys entry 0))
  pub bytes : Under 256 (left_from names keys entry i)

module _ {names keys : List ℕ} {x : ℕ} {old : List ℕ} {at : ℕ} where
  pub writing_start : ((i : ℕ) → get_or names i 0 < 256) → ((i : ℕ) → i < 16 → get_or keys i 0 < 256) → Writing names keys x old at old (16 + x) 0 at
  writing_start p q = record {
    coming = rw (left-start names keys x) coming_all;
    within = omega arith;
    bytes = rw (left-start names keys x) (bytes_joined names keys p q x);
  }

  module _ {new : List ℕ} {entry i k : ℕ} (c : Writing names keys x old at new entry i k) where
    pub writing_length : length new ≡ length old
    writing_length = coming_length c.coming

    module _ {n e j : ℕ} (step : WalksOn names keys entry i n e j) where
      pub writing_done : n ≡ 0 → Put old at (joined_text names keys x) new k
      writing_done z = coming_done (step.shows.none z) c.coming

      module _ (some : n ≡ 0 → ⊥) where
        next : Coming old at (joined_text names keys x) new k (n ∷ left_from names keys e j)
        next = rw (step.shows.one some) at c.coming

        rest : Under 256 (n ∷ left_from names keys e j)
        rest = rw (step.shows.one some) at c.bytes

        pub writing_byte : n < 256
        writing_byte = rest.0

        pub writing_less : length (left_from names keys e j) < length (left_from names keys entry i)
        writing_less = rw (step.shows.one some) (omega arith)

        pub writing_fits : at + length (joined_text names keys x) < 4294967296 → k + 1 < 4294967296
        writing_fits f = omega (arith, next.ends)

        -- THE LAW of a turn
        pub writing_on : Writing names keys x old at (set new k n) e j (k + 1)
        writing_on = record { coming = coming_one next; within = step.within; bytes = rest.1 }
