-- `LetterSet::contains` meets its contract. Assumes nothing.
use Rattle.std.proofs.Common.{◌≡◌, ℕ, ◌+◌, ◌-◌, ◌%◌, ◌^◌, ◌<◌, ◌≤◌, Bool, true, false, ◌&&◌, ltb, sym, refl, ◌∙◌, inl, ⊎_elim, true≢false, arith, le-ltb, lt-ltb}
use Rattle.lists.specs.Tests.{below?}
use Rattle.letters.specs.declared.letter_set.LetterSet.{LetterSet}
use Rattle.letters.specs.Letters.{capital, has, is_letter, bit_set}
use Rattle.letters.specs.BitLaws.{bit_low, bit_high}
use Rattle.letters.specs.CapitalLaws.{small-reads, other_reads, reads?, letter_from, letter_to, letter_within}
use Rattle.letters.proofs.letter_set.LetterSet.contains.Goals as goal

-- k is how far a byte lies behind A, where bytes wrap
module _ (s : LetterSet) (b k : ℕ) (h : k < 256) (e : (k + 65) % 256 ≡ b) where
  abbrev tested : Bool
  tested = ltb k 64 && bit_set (s.mask % 2 ^ 26) (k % 32)

  -- of a letter it is below 64, and its remainder the number of the capital's bit
  of_letter : is_letter b ≡ true → tested ≡ bit_set s.mask (capital b - 65)
  of_letter l =
      let f = letter_from b l in
      let t = letter_to b l in
      let near : k < 64 = ⊎_elim (λ r. omega (arith, r.0, r.1)) (λ r. omega (arith, r.1)) (reads? b) in
      let place : k % 32 ≡ capital b - 65 = ⊎_elim (λ r. omega (arith, r.0, r.1, r.2)) (λ r. omega (arith, r.1)) (reads? b) in
      rw (lt-ltb k 64 near, place) (bit_low 26 s.mask (capital b - 65) (omega arith))

  -- of another byte it is 64 or more, or its remainder is none of the 26
  of_other : is_letter b ≡ false → tested ≡ false
  of_other l = ⊎_elim near (λ (g : 64 ≤ k). rw (le-ltb k 64 g)) (below? k 64)
    where
      none : 65 ≤ capital b → capital b ≤ 90 → ⊥
      none f t = true≢false (sym (letter_within b f t) ∙ l)

      far : k < 64 → k % 32 < 26 → ⊥
      far g m =
          ⊎_elim (λ (q : k < 32). let r = other_reads b (inl (omega arith)) in none (omega (arith, r)) (omega (arith, r)))
          (λ (q : 32 ≤ k). let r = small-reads b (omega arith) (omega arith) in none (omega (arith, r)) (omega (arith, r)))
          (below? k 32)

      near : k < 64 → tested ≡ false
      near g = rw (lt-ltb k 64 g) (⊎_elim (λ (m : k % 32 < 26). absurd (far g m)) (λ (m : 26 ≤ k % 32). bit_high 26 s.mask (k % 32) m) (below? (k % 32) 26))

  member : tested ≡ has s b
  unfolding has
  member = go (is_letter b) refl
    where
      go : (t : Bool) → is_letter b ≡ t → tested ≡ (t && bit_set s.mask (capital b - 65))
      go true l = of_letter l
      go false l = of_other l

pub returns : goal.returns
unfolding bit_set
returns c = member c.args.self c.args.letter ((c.args.letter + 191) % 256) (omega arith) (omega (arith, c.well_formed.0))
