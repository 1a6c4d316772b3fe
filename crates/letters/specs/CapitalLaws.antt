-- How bytes read: the laws of capitals that callers cite, so that none opens the definitions. Assumes nothing.
use Rattle.std.specs.Prelude.{◌≡◌, ℕ, ◌-◌, ◌<◌, ◌≤◌, true, false, ◌⊎◌, List, [], ◌∷◌, length, nat_le, slice_index, refl}
use Rattle.std.proofs.Common.{sym, ap, ap₂, ◌∙◌, inl, inr, ⊎_elim, arith, ext_get_or, le-leb, leb-true}
use Rattle.std.proofs.Math.Bool.{and-false}
use Rattle.std.proofs.lemmas.List.{length-map}
use Rattle.std.proofs.Math.ListN.{get_or-map}
use Rattle.std.proofs.lemmas.Bool.{lt-leb}
use Rattle.lists.specs.Lists.{some, All}
use Rattle.lists.specs.KeepLaws.{some-none}
use Rattle.lists.specs.Tests.{below?, both}
use Rattle.letters.specs.Letters.{is_capital, is_small, capital, capitals, is_letter}

-- ---- one byte

pub small-reads : (b : ℕ) → 97 ≤ b → b ≤ 122 → capital b ≡ b - 32
unfolding capital
small-reads b h k = rw (le-leb 97 b h, le-leb b 122 k)

pub other_reads : (b : ℕ) → (b < 97) ⊎ (122 < b) → capital b ≡ b
unfolding capital
other_reads b (inl h) = rw (lt-leb 97 b h)
other_reads b (inr h) = simp (lt-leb b 122 h, and-false (nat_le 97 b))

-- a byte is a small letter, or reads as itself
pub reads? : (b : ℕ) → ((97 ≤ b) × (b ≤ 122) × (capital b ≡ b - 32)) ⊎ (((b < 97) ⊎ (122 < b)) × (capital b ≡ b))
reads? b =
    ⊎_elim (λ (h : b < 97). inr (inl h, other_reads b (inl h)))
    (λ (h : 97 ≤ b). ⊎_elim (λ (k : 122 < b). inr (inr k, other_reads b (inr k))) (λ (k : b ≤ 122). inl (h, k, small-reads b h k)) (below? 122 b))
    (below? b 97)

-- ---- capitals

pub capital-from : (b : ℕ) → is_capital b ≡ true → 65 ≤ b
unfolding is_capital
capital-from b e = leb-true 65 b (both (nat_le 65 b) (nat_le b 90) e).0

pub capital-to : (b : ℕ) → is_capital b ≡ true → b ≤ 90
unfolding is_capital
capital-to b e = leb-true b 90 (both (nat_le 65 b) (nat_le b 90) e).1

pub capital-within : (b : ℕ) → 65 ≤ b → b ≤ 90 → is_capital b ≡ true
unfolding is_capital
capital-within b h k = rw (le-leb 65 b h, le-leb b 90 k)

-- what reads as a capital reads so again
pub capital_twice : (b : ℕ) → capital (capital b) ≡ capital b
capital_twice b = ⊎_elim (λ s. other_reads (capital b) (inl (omega (arith, s.0, s.1, s.2)))) (λ o. ap capital o.1) (reads? b)

-- a capital reads as itself
pub capital-same : (b : ℕ) → is_capital b ≡ true → capital b ≡ b
capital-same b e = other_reads b (inl (omega (arith, capital-to b e)))

-- ---- letters

pub letter_from : (b : ℕ) → is_letter b ≡ true → 65 ≤ capital b
unfolding is_letter
letter_from b e = capital-from (capital b) e

pub letter_to : (b : ℕ) → is_letter b ≡ true → capital b ≤ 90
unfolding is_letter
letter_to b e = capital-to (capital b) e

pub letter_within : (b : ℕ) → 65 ≤ capital b → capital b ≤ 90 → is_letter b ≡ true
unfolding is_letter
letter_within b h k = capital-within (capital b) h k

-- what a letter reads as is a letter, and no other byte reads as one
pub letter_capital : (b : ℕ) → is_letter (capital b) ≡ is_letter b
unfolding is_letter
letter_capital b = ap is_capital (capital_twice b)

-- a capital is a letter
pub capital_letter : (b : ℕ) → is_capital b ≡ true → is_letter b ≡ true
unfolding is_letter
capital_letter b e = ap is_capital (capital-same b e) ∙ e

-- a letter is A to Z or a to z
pub letter_is : (b : ℕ) → is_letter b ≡ true → ((65 ≤ b) × (b ≤ 90)) ⊎ ((97 ≤ b) × (b ≤ 122))
letter_is b e =
    ⊎_elim (λ s. inr (s.0, s.1))
    (λ o. inl (omega (arith, letter_from b e, o.1), omega (arith, letter_to b e, o.1)))
    (reads? b)

-- ---- stretches

pub get_or-capitals : (s : List ℕ) (i : ℕ) → slice_index (capitals s) i ≡ capital (slice_index s i)
unfolding capital
get_or-capitals s i = get_or-map capital s i 0

pub capitals_twice : (s : List ℕ) → capitals (capitals s) ≡ capitals s
capitals_twice [] = refl
capitals_twice (b ∷ bs) = ap₂ {C = List ℕ} (λ (x : ℕ) (xs : List ℕ). x ∷ xs) (capital_twice b) (capitals_twice bs)

-- letters of which none is small read as they stand
pub capitals-same : (s : List ℕ) → some is_small s ≡ false → capitals s ≡ s
unfolding capital
capitals-same s e = go s (some-none is_small s e)
  where
    go : (s : List ℕ) → All (λ (b : ℕ). is_small b ≡ false) s → capitals s ≡ s
    go [] h = refl
    go (b ∷ bs) h = ap₂ {C = List ℕ} (λ (x : ℕ) (xs : List ℕ). x ∷ xs) (rw h.0) (go bs h.1)

-- what has at each place what a list reads as there is the list as capitals
pub capitals_is : (s out : List ℕ) → length out ≡ length s → ((j : ℕ) → j < length s → slice_index out j ≡ capital (slice_index s j)) → out ≡ capitals s
capitals_is s out l h = ext_get_or 0 out (capitals s) (l ∙ sym (length-map s capital)) (λ j g. h j (omega arith) ∙ sym (get_or-capitals s j))
