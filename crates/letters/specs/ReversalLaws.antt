-- What stands where in reversed letters. Assumes nothing.
use Rattle.std.specs.Prelude.{◌≡◌, ℕ, zero, suc, ◌+◌, ◌-◌, ◌<◌, ◌≤◌, Bool, true, false, ◌&&◌, ◌⊎◌, List, [], ◌∷◌, ◌++◌, reverse, length, take, drop, nat_lt, slice_index, refl}
use Rattle.std.proofs.Common.{sym, ◌∙◌, subst, true≢false, inl, inr, length-append, length-drop, ltb-true, ltb-false}
use Rattle.std.proofs.Math.Path.{ap}
use native.Mathlib.Omega.{arith}
use Rattle.std.proofs.lemmas.List.{length-map}
use Rattle.std.proofs.Math.ListN.{length-reverse, get_or-append, get_or-eq_default}
use Rattle.std.proofs.Math.Seq.{get_or-take, get_or-drop, get_or-append-add, length-take-le}
use Rattle.lists.specs.Tests.{below?, both}
use Rattle.lists.specs.ReverseLaws.{get_or-reverse}
use Rattle.letters.specs.Letters.{capital, capitals}
use Rattle.letters.specs.CapitalLaws.{get_or-capitals, capitals_is}
use Rattle.letters.specs.Reversal.{reversed, letters_of}

-- ---- the letters of a reversed list

pub length-reversed : (s : List ℕ) → length (reversed s) ≡ length s
length-reversed [] = refl
length-reversed (b ∷ bs) =
    let k : ℕ = length bs - 1 in
    let t : length (take k bs) ≡ k = length-take-le k bs (omega arith) in
    ap suc (length-append (reverse (take k bs)) (drop k bs) ∙ omega (arith, length-reverse (take k bs), t, length-drop k bs))

module _ (b : ℕ) (bs : List ℕ) where
  k : ℕ
  k = length bs - 1

  front : length (reverse (take k bs)) ≡ k
  unfolding k
  front = length-reverse (take k bs) ∙ length-take-le k bs (omega arith)

  inner_at : (y : ℕ) → y < k → slice_index (reverse (take k bs) ++ drop k bs) y ≡ slice_index bs (k - 1 - y)
  unfolding k
  inner_at y h =
      let t : length (take k bs) ≡ k = length-take-le k bs (omega arith) in
      get_or-append (reverse (take k bs)) (drop k bs) 0 y (omega (arith, front))
      ∙ get_or-reverse (take k bs) y (omega (arith, t))
      ∙ ap (λ (n : ℕ). slice_index (take k bs) (n - 1 - y)) t
      ∙ get_or-take k bs (k - 1 - y) 0 (omega arith)

  last-at : 0 < length bs → slice_index (reverse (take k bs) ++ drop k bs) k ≡ slice_index bs k
  unfolding k
  last-at h =
      let e : k ≡ length (reverse (take k bs)) + 0 = omega (arith, front) in
      let z : k + 0 ≡ k = omega arith in
      ap (λ (n : ℕ). slice_index (reverse (take k bs) ++ drop k bs) n) e
      ∙ get_or-append-add (reverse (take k bs)) (drop k bs) 0 0
      ∙ get_or-drop k bs 0 0
      ∙ ap (λ (n : ℕ). slice_index bs n) z

pub reversed-first : (s : List ℕ) → slice_index (reversed s) 0 ≡ slice_index s 0
reversed-first [] = refl
reversed-first (b ∷ bs) = refl

pub reversed-last : (s : List ℕ) (x : ℕ) → x + 1 ≡ length s → slice_index (reversed s) x ≡ slice_index s x
unfolding k
reversed-last [] x h = absurd (omega arith)
reversed-last (b ∷ bs) zero h = refl
reversed-last (b ∷ bs) (suc y) h =
    let e : y ≡ length bs - 1 = omega arith in
    subst (λ (n : ℕ). slice_index (reverse (take (length bs - 1) bs) ++ drop (length bs - 1) bs) n ≡ slice_index bs n) (sym e) (at_end (omega arith))
  where
    at_end : 0 < length bs → slice_index (reverse (take (length bs - 1) bs) ++ drop (length bs - 1) bs) (length bs - 1) ≡ slice_index bs (length bs - 1)
    at_end g = last-at b bs g

pub reversed_inner : (s : List ℕ) (x : ℕ) → 0 < x → x + 1 < length s → slice_index (reversed s) x ≡ slice_index s (length s - 1 - x)
unfolding k
reversed_inner [] x h g = absurd (omega arith)
reversed_inner (b ∷ bs) zero h g = absurd (omega arith)
reversed_inner (b ∷ bs) (suc y) h g =
    let e : suc (length bs) - 1 - suc y ≡ suc (length bs - 1 - 1 - y) = omega arith in
    inner_at b bs y (omega arith) ∙ sym (ap (λ (n : ℕ). slice_index (b ∷ bs) n) e)

-- reversed letters read as those that they are reversed from
pub capitals-reversed : (s : List ℕ) → capitals (reversed s) ≡ reversed (capitals s)
capitals-reversed s =
    let n : length (capitals s) ≡ length s = length-map s capital in
    sym (capitals_is (reversed s) (reversed (capitals s)) (length-reversed (capitals s) ∙ n ∙ sym (length-reversed s)) (λ j g. at j (omega (arith, length-reversed s)) (below? 0 j) (below? (j + 1) (length s))))
  where
    at : (j : ℕ) → j < length s → (0 < j) ⊎ (j ≤ 0) → (j + 1 < length s) ⊎ (length s ≤ j + 1) → slice_index (reversed (capitals s)) j ≡ capital (slice_index (reversed s) j)
    at j g (inr z) e = let f : j ≡ 0 = omega arith in rw f (reversed-first (capitals s) ∙ get_or-capitals s 0 ∙ ap capital (sym (reversed-first s)))
    at j g (inl o) (inr e) =
        reversed-last (capitals s) j (omega (arith, length-map s capital)) ∙ get_or-capitals s j ∙ ap capital (sym (reversed-last s j (omega arith)))
    at j g (inl o) (inl e) =
        reversed_inner (capitals s) j o (omega (arith, length-map s capital))
        ∙ ap (λ (n : ℕ). slice_index (capitals s) (n - 1 - j)) (length-map s capital)
        ∙ get_or-capitals s (length s - 1 - j)
        ∙ ap capital (sym (reversed_inner s j o e))

-- ---- one letter of a range
pub length-letters : (decoy : Bool) (part : List ℕ) → length (letters_of decoy part) ≡ length part
length-letters true part = length-map (reversed part) capital ∙ length-reversed part
length-letters false part = length-map part capital

pub letter_inner : (decoy : Bool) (part : List ℕ) (i : ℕ) → (decoy && nat_lt 0 i && nat_lt (i + 1) (length part)) ≡ true → slice_index (letters_of decoy part) i ≡ capital (slice_index part (length part - 1 - i))
letter_inner true part i e =
    let x = both (nat_lt 0 i) (nat_lt (i + 1) (length part)) e in
    get_or-capitals (reversed part) i ∙ ap capital (reversed_inner part i (ltb-true _ _ x.0) (ltb-true _ _ x.1))
letter_inner false part i e = absurd (true≢false (sym e))

pub letter_outer : (decoy : Bool) (part : List ℕ) (i : ℕ) → i < length part → (decoy && nat_lt 0 i && nat_lt (i + 1) (length part)) ≡ false → slice_index (letters_of decoy part) i ≡ capital (slice_index part i)
letter_outer true part i h e = get_or-capitals (reversed part) i ∙ ap capital (go (nat_lt 0 i) refl e)
  where
    go : (b : Bool) → nat_lt 0 i ≡ b → (b && nat_lt (i + 1) (length part)) ≡ false → slice_index (reversed part) i ≡ slice_index part i
    go true f g = reversed-last part i (omega (arith, ltb-false (i + 1) (length part) g))
    go false f g = let z : i ≡ 0 = omega (arith, ltb-false 0 i f) in rw z (reversed-first part)
letter_outer false part i h e = get_or-capitals part i

pub letter_past : (decoy : Bool) (part : List ℕ) (i : ℕ) → length part ≤ i → slice_index (letters_of decoy part) i ≡ 0
letter_past decoy part i h = get_or-eq_default (letters_of decoy part) 0 (omega (arith, length-letters decoy part))
