-- Of the ranges of "none" only those of its own length have the letters of a range. Assumes nothing.
use Rattle.std.specs.Prelude.{ℕ, zero, suc, ◌+◌, ◌-◌, ◌≤◌, ◌<◌, ◌≡◌, refl, ◌⊎◌, List, length, take, drop}
use Rattle.std.proofs.Common.{sym, ◌∙◌, inl, inr, ⊎_elim, arith, length-drop, length-take-le}
use Rattle.lists.specs.Tests.{same?, below?}
use Rattle.lists.specs.SameLaws.{same_short}
use Rattle.enzyme_cuts.specs.Cutting.{site, starting, of_length, of_lengths, none_sites, having}
use Rattle.enzyme_cuts.specs.HavingLaws.{having_append}
use Rattle.enzyme_keep.specs.Steps.{among}
use Rattle.enzyme_starts.specs.Showing.{showing}

module _ (s x : List ℕ) where
  -- ranges of another length
  having_other : (l i m : ℕ) → (l ≡ length x → ⊥) → i + m ≤ suc (length s) - l → having s (starting l i m) x ≡ 0
  having_other l i zero d h = refl
  having_other l i (suc m) d h =
      let z : i + l - i ≡ l = omega arith in
      let y : length (take l (drop i s)) ≡ l = length-take-le l (drop i s) (omega (arith, length-drop i s)) in
      rw (z, same_short (take l (drop i s)) x (λ e. d (sym y ∙ e))) (having_other l (suc i) m d (omega arith))

  having-past : (l m : ℕ) → length x < l → having s (of_lengths (length s) l m) x ≡ 0
  having-past l zero h = refl
  having-past l (suc m) h = having_append s (of_length (length s) l) (of_lengths (length s) (suc l) m) x
      ∙ rw (having_other l 0 (suc (length s) - l) (λ e. omega arith) (omega arith), having-past (suc l) m (omega arith))

  having_lengths : (l m : ℕ) → l ≤ length x → length x < l + m → having s (of_lengths (length s) l m) x ≡ having s (of_length (length s) (length x)) x
  having_lengths l zero h k = absurd (omega arith)
  having_lengths l (suc m) h k = having_append s (of_length (length s) l) (of_lengths (length s) (suc l) m) x ∙ go (same? l (length x)) (having_lengths (suc l) m)
    where
      go : (l ≡ length x) ⊎ (l ≡ length x → ⊥) → (suc l ≤ length x → length x < suc l + m → having s (of_lengths (length s) (suc l) m) x ≡ having s (of_length (length s) (length x)) x)
          → having s (of_length (length s) l) x + having s (of_lengths (length s) (suc l) m) x ≡ having s (of_length (length s) (length x)) x
      go (inl e) ih = rw (having-past (suc l) m (omega arith), e) (omega arith)
      go (inr e) ih = rw (having_other l 0 (suc (length s) - l) e (omega arith), ih (⊎_elim (λ (t : l < length x). omega arith) (λ (t : length x ≤ l). absurd (e (omega arith))) (below? l (length x))) (omega arith)) (omega arith)

pub showing-among : (s : List ℕ) (minimum maximum a len : ℕ) → minimum ≤ len → len ≤ maximum → a + len ≤ length s
    → showing s (site a (a + len)) ≡ among s (none_sites (length s) minimum maximum) (site a (a + len))
showing-among s minimum maximum a len low high inside =
    let z : a + len - a ≡ len = omega arith in
    let y : length (take len (drop a s)) ≡ len = length-take-le len (drop a s) (omega (arith, length-drop a s)) in
    let t = having_lengths s (take len (drop a s)) minimum (suc maximum - minimum) (omega arith) (omega arith) in
    rw z (sym (rw y at t))
