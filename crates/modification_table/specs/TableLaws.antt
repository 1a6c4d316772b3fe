-- Floats that are no number, and what the tests of the table come to. Assumes nothing.
use Rattle.std.specs.Prelude.{ℕ, ◌+◌, ◌*◌, ◌/◌, ◌≤◌, ◌<◌, ◌≡◌, refl, true, false, List, [], ◌∷◌, length, ltb, Float, Ok, Err}
use Rattle.std.proofs.Common.{sym, ◌∙◌, true≢false, arith, ⊎_elim}
use Rattle.std.proofs.lemmas.List.Edits.{sets}
use Rattle.std.specs.Float.{nan, inf, fin, binary32}
use Rattle.std.specs.Float.Ieee.{of_bits, nan_bits, is_nan, eq}
use Rattle.std.specs.Float.Ieee.Bits.{nan_bits_is}
use borrow.Author.Tests.{lt-ltb, le-ltb, le-leb, lt-leb, eq-eqb, ne_eqb}
use Rattle.lists.specs.Tests.{below?}
use Rattle.records.specs.declared.refusal.Refusal.{Refusal}
use Rattle.records.specs.declared.refusal.Refusal.TheVariants.{Size, TableFull, Length, Room}
use Rattle.records.specs.Outcome.{outcome, only}
use Rattle.modification_table.specs.Tables.{Entered, same_mass, first_equal, tested_table, entry_bytes, entered_outcome, insert_outcome}
use Rattle.records.specs.Answers.{Passed}

nan_left : (x y : Float) → is_nan x ≡ true → eq x y ≡ false
unfolding is_nan eq
nan_left nan y e = refl
nan_left (inf s) y e = absurd (true≢false (sym e))
nan_left (fin s m d) y e = absurd (true≢false (sym e))

nan_right : (x y : Float) → is_nan y ≡ true → eq x y ≡ false
unfolding is_nan eq
nan_right nan y e = refl
nan_right (inf s) nan e = refl
nan_right (fin s m d) nan e = refl
nan_right (inf s) (inf t) e = absurd (true≢false (sym e))
nan_right (inf s) (fin t n d) e = absurd (true≢false (sym e))
nan_right (fin s m d) (inf t) e = absurd (true≢false (sym e))
nan_right (fin s m d) (fin t n f) e = absurd (true≢false (sym e))

-- not-a-number equals nothing
pub same-nan-left : (a b : ℕ) → nan_bits binary32 a ≡ true → same_mass a b ≡ false
unfolding same_mass
same-nan-left a b e = nan_left (of_bits binary32 a) (of_bits binary32 b) (sym (nan_bits_is binary32 a) ∙ e)

pub same-nan_right : (a b : ℕ) → nan_bits binary32 b ≡ true → same_mass a b ≡ false
unfolding same_mass
same-nan_right a b e = nan_right (of_bits binary32 a) (of_bits binary32 b) (sym (nan_bits_is binary32 b) ∙ e)

-- minus zero equals zero
pub same-zero : same_mass 0x8000_0000 0 ≡ true
unfolding same_mass of_bits eq
same-zero = refl

-- ---- the tests, one after the other

module _ (table : List ℕ) (count : ℕ) where
  pub table-tested-size : 255 < count → Err Size ≡ tested_table table count
  unfolding tested_table
  table-tested-size h = rw (lt-ltb 255 count h)

  module _ (few : count ≤ 255) where
    pub table-tested-length : length table / 8 < count → Err Length ≡ tested_table table count
    unfolding tested_table
    table-tested-length h = rw (le-ltb 255 count few, lt-ltb (length table / 8) count h)

    pub table-tested-passed : count ≤ length table / 8 → Passed ≡ tested_table table count
    unfolding tested_table
    table-tested-passed h = rw (le-ltb 255 count few, le-ltb (length table / 8) count h)

  -- a table that passed its tests is small
  pub passed_few : Passed ≡ tested_table table count → count ≤ 255
  passed_few e = ⊎_elim large (λ (h : count ≤ 255). h) (below? 255 count)
    where
      large : 255 < count → count ≤ 255
      large h =
          let f : Passed ≡ Err Size = e ∙ sym (table-tested-size h) in
          let z : ◌≡◌ {A = ℕ} 0 1 = cc in
          absurd (omega arith)

-- ---- the entry, once tested

module _ (table : List ℕ) (count mass name at : ℕ) (first : at ≡ first_equal table mass name count) where
  pub entered_found : at < count → outcome (Ok (at + 1)) (table ∷ []) ≡ entered_outcome table count mass name
  unfolding entered_outcome
  entered_found h = rw (first, lt-ltb (first_equal table mass name count) count (rw first at h))

  module _ (new : count ≤ at) where
    is_new : ltb (first_equal table mass name count) count ≡ false
    is_new = le-ltb (first_equal table mass name count) count (rw first at new)

    pub entered_full : count ≡ 255 → outcome (Err TableFull) (table ∷ []) ≡ entered_outcome table count mass name
    unfolding entered_outcome
    entered_full h = rw (is_new, eq-eqb count 255 h)

    module _ (some : count ≡ 255 → ⊥) where
      pub entered_room : length table / 8 ≤ count → outcome (Err Room) (table ∷ []) ≡ entered_outcome table count mass name
      unfolding entered_outcome
      entered_room h = rw (is_new, ne_eqb count 255 some, le-leb (length table / 8) count h)

      pub entered_new : count < length table / 8 → (out : List ℕ) → out ≡ sets table (count * 8) (entry_bytes mass name) → outcome (Ok (count + 1)) (out ∷ []) ≡ entered_outcome table count mass name
      unfolding entered_outcome
      entered_new h out e = rw (e, is_new, ne_eqb count 255 some, lt-leb (length table / 8) count h)

-- ---- the whole

module _ (table : List ℕ) (count mass name : ℕ) where
  pub insert-refused : (r : Refusal) → Err r ≡ tested_table table count → outcome (Err r) (table ∷ []) ≡ insert_outcome table count mass name
  unfolding insert_outcome
  insert-refused r e = rw (← e)

  pub insert-passed : Passed ≡ tested_table table count → entered_outcome table count mass name ≡ insert_outcome table count mass name
  unfolding insert_outcome
  insert-passed e = rw (← e)

  -- no second answer, and no second table, meets what `insert` ensures
  pub insert_only : (a b : Entered) (k l : List (List ℕ)) → outcome a k ≡ insert_outcome table count mass name → outcome b l ≡ insert_outcome table count mass name → (a ≡ b) × (k ≡ l)
  insert_only a b k l = only a b k l (insert_outcome table count mass name)
