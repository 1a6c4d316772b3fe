-- The positions of the ranges of a length: the first start and the last stand apart. Assumes nothing.
use Rattle.std.specs.Prelude.{ℕ, ◌+◌, ◌-◌, ◌≤◌, ◌<◌, max, ◌≡◌, true, false, ◌&&◌, ltb}
use Rattle.std.proofs.Common.{sym, arith}
use borrow.Author.Tests.{ltb-true, ltb-false, lt-ltb, eq-eqb, ne_eqb}
use Rattle.lists.specs.Tests.{both}
use Rattle.enzyme_cuts.specs.Cutting.{Range}
use Rattle.enzyme_keep.specs.Digests.{position_of, record_of}
use Rattle.enzyme_keep.specs.Buffer.{placed_record}
use Rattle.enzyme_keep.specs.BufferLaws.{record_placed}
use Rattle.enzyme_lengths.specs.Listing.{Positioned}

pub placed_as : (n position last : ℕ) (r : Range) (times : ℕ) → position_of n r.from r.to ≡ position → placed_record position last r times ≡ record_of n last r times
placed_as n position last r times e = rw (← e) (record_placed n last r times)

module _ (n len : ℕ) where
  inside : (a : ℕ) → 0 < a → a + len < n → position_of n a (a + len) ≡ 3
  unfolding position_of
  inside a h g = rw (ne_eqb a 0 (λ e. omega arith), ne_eqb (a + len) n (λ e. omega arith))

  at_end : (a : ℕ) → 0 < a → a + len ≡ n → position_of n a (a + len) ≡ 1
  unfolding position_of
  at_end a h g = rw (ne_eqb a 0 (λ e. omega arith), eq-eqb (a + len) n g)

  pub first_alone : (position from to : ℕ) → position ≡ position_of n 0 len → to ≡ max from 1 → Positioned n len position from to
  first_alone position from to e t a h g = let y : a + len ≡ len = omega arith in let z : a ≡ 0 = omega arith in rw (y, z) (sym e)

  module _ (from to : ℕ) (some : 0 < from) (low : from ≤ to) (high : to + len ≤ n + 1) where
    -- the last start is at the end
    pub last_apart : (ltb from to && ltb n (to + len)) ≡ true → (from ≤ to - 1) × (to - 1 ≤ to) × Positioned n len 3 from (to - 1) × Positioned n len 1 (to - 1) to
    last_apart e =
        let t = both (ltb from to) (ltb n (to + len)) e in
        let f = ltb-true from to t.0 in
        let g = ltb-true n (to + len) t.1 in
        (omega arith, omega arith, λ a h i. inside a (omega arith) (omega arith), λ a h i. at_end a (omega arith) (omega arith))

    -- none is
    pub none_apart : (ltb from to && ltb n (to + len)) ≡ false → (from ≤ to) × (to ≤ to) × Positioned n len 3 from to × Positioned n len 1 to to
    none_apart e = (low, omega arith, λ a h i. let g = ltb-false n (to + len) (rw (lt-ltb from to (omega arith)) at e) in inside a (omega arith) (omega arith), λ a h i. absurd (omega arith))
