-- The order of words is that of what they stand for, as far as they tell. Assumes nothing.
use Rattle.std.specs.Prelude.{ℕ, zero, suc, ◌+◌, ◌-◌, ◌*◌, ◌≤◌, ◌<◌, ◌≡◌, refl, true, false, List, [], ◌∷◌, length, get_or, drop}
use Rattle.std.proofs.Common.{sym, ap, ◌∙◌, subst, ⊎_elim, arith, add-zero, drop_of_length-le, drop-cons}
use Rattle.std.proofs.Math.ListN.{get_or-eq_default}
use Rattle.lists.specs.Tests.{below?}
use Rattle.sorting_spec.specs.Lex.{lex_le}
use Rattle.sorting_spec.specs.LexLaws.{lex_lt, lex_gt, lex_eq}
use Rattle.digest_groups_words.specs.Word.{packed, digest_word}

-- each is a capital
abbrev pub Spelt : List ℕ → Type 0
Spelt [] = Unit {0}
Spelt (x ∷ xs) = (65 ≤ x) × (x ≤ 90) × Spelt xs

-- what stands in front decides
front_decides : (k h j : ℕ) (xs ys : List ℕ) → Spelt xs → Spelt ys → h < j → packed h k xs < packed j k ys
front_decides zero h j xs ys p q l = l
front_decides (suc k) h j [] [] p q l = front_decides k (h * 27) (j * 27) [] [] tt tt (omega arith)
front_decides (suc k) h j [] (y ∷ ys) p q l = front_decides k (h * 27) (j * 27 + (y - 64)) [] ys tt q.2 (omega arith)
front_decides (suc k) h j (x ∷ xs) [] p q l = front_decides k (h * 27 + (x - 64)) (j * 27) xs [] p.2 tt (let a : x ≤ 90 = p.1 in omega arith)
front_decides (suc k) h j (x ∷ xs) (y ∷ ys) p q l =
    front_decides k (h * 27 + (x - 64)) (j * 27 + (y - 64)) xs ys p.2 q.2 (let a : x ≤ 90 = p.1 in omega arith)

-- behind the same front, letters whose word is less stand before
words_ordered : (k h : ℕ) (xs ys : List ℕ) → Spelt xs → Spelt ys → packed h k xs < packed h k ys
    → (lex_le xs ys ≡ true) × (lex_le ys xs ≡ false)
words_ordered zero h xs ys p q l = absurd (omega arith)
words_ordered (suc k) h [] [] p q l = absurd (omega arith)
words_ordered (suc k) h [] (y ∷ ys) p q l = (refl, refl)
words_ordered (suc k) h (x ∷ xs) [] p q l =
    let a : 65 ≤ x = p.0 in
    let f : packed (h * 27) k [] < packed (h * 27 + (x - 64)) k xs = front_decides k (h * 27) (h * 27 + (x - 64)) [] xs tt p.2 (omega arith) in
    absurd (omega arith)
words_ordered (suc k) h (x ∷ xs) (y ∷ ys) p q l = ⊎_elim less (λ (g : y ≤ x). ⊎_elim more (equal g (words_ordered k (h * 27 + (x - 64)) xs ys p.2 q.2)) (below? y x)) (below? x y)
  where
    less : x < y → (lex_le (x ∷ xs) (y ∷ ys) ≡ true) × (lex_le (y ∷ ys) (x ∷ xs) ≡ false)
    less g = (lex_lt x y xs ys g, lex_gt y x ys xs g)

    more : y < x → (lex_le (x ∷ xs) (y ∷ ys) ≡ true) × (lex_le (y ∷ ys) (x ∷ xs) ≡ false)
    more g =
        let a : 65 ≤ y = q.0 in
        let f : packed (h * 27 + (y - 64)) k ys < packed (h * 27 + (x - 64)) k xs = front_decides k (h * 27 + (y - 64)) (h * 27 + (x - 64)) ys xs q.2 p.2 (omega arith) in
        absurd (omega arith)

    equal : y ≤ x → (packed (h * 27 + (x - 64)) k xs < packed (h * 27 + (x - 64)) k ys → (lex_le xs ys ≡ true) × (lex_le ys xs ≡ false))
        → x ≤ y → (lex_le (x ∷ xs) (y ∷ ys) ≡ true) × (lex_le (y ∷ ys) (x ∷ xs) ≡ false)
    equal g ih f =
        let e : x ≡ y = omega arith in
        let m : packed (h * 27 + (x - 64)) k xs < packed (h * 27 + (x - 64)) k ys = subst (λ (z : ℕ). packed (h * 27 + (x - 64)) k xs < packed (h * 27 + (z - 64)) k ys) (sym e) l in
        let r = ih m in
        (lex_eq x y xs ys e ∙ r.0, lex_eq y x ys xs (sym e) ∙ r.1)

-- letters one at a time
pub packed-next : (h k i : ℕ) (xs : List ℕ) → packed h (suc k) (drop i xs) ≡ packed (h * 27 + (get_or xs i 0 - 64)) k (drop (suc i) xs)
packed-next h k i xs = ⊎_elim inside outside (below? i (length xs))
  where
    inside : i < length xs → packed h (suc k) (drop i xs) ≡ packed (h * 27 + (get_or xs i 0 - 64)) k (drop (suc i) xs)
    inside l = ap (packed h (suc k)) (drop-cons xs i 0 l)

    outside : length xs ≤ i → packed h (suc k) (drop i xs) ≡ packed (h * 27 + (get_or xs i 0 - 64)) k (drop (suc i) xs)
    outside l =
        let u : length xs ≤ suc i = omega arith in
        rw (drop_of_length-le xs {i = i} l, drop_of_length-le xs {i = suc i} u, get_or-eq_default xs 0 {n = i} l, add-zero (h * 27))

pub six : (xs : List ℕ) (h a b c d e f : ℕ) → a ≡ h * 27 + (get_or xs 0 0 - 64) → b ≡ a * 27 + (get_or xs 1 0 - 64) → c ≡ b * 27 + (get_or xs 2 0 - 64)
    → d ≡ c * 27 + (get_or xs 3 0 - 64) → e ≡ d * 27 + (get_or xs 4 0 - 64) → f ≡ e * 27 + (get_or xs 5 0 - 64) → f ≡ packed h 6 xs
six xs h a b c d e f p q r s t u =
    sym (packed-next h 5 0 xs
    ∙ ap (λ (z : ℕ). packed z 5 (drop 1 xs)) (sym p) ∙ packed-next a 4 1 xs
    ∙ ap (λ (z : ℕ). packed z 4 (drop 2 xs)) (sym q) ∙ packed-next b 3 2 xs
    ∙ ap (λ (z : ℕ). packed z 3 (drop 3 xs)) (sym r) ∙ packed-next c 2 3 xs
    ∙ ap (λ (z : ℕ). packed z 2 (drop 4 xs)) (sym s) ∙ packed-next d 1 4 xs
    ∙ ap (λ (z : ℕ). packed z 1 (drop 5 xs)) (sym t) ∙ packed-next e 0 5 xs ∙ sym u)

-- a word has 32 bits
pub word_small : (h : ℕ) (xs : List ℕ) → Spelt xs → h ≤ 7 → packed h 6 xs < 4294967296
word_small h xs p l =
    let a : packed h 6 xs < packed 8 6 [] = front_decides 6 h 8 xs [] p tt (omega arith) in
    let b : packed 8 6 [] ≡ 3099363912 = refl in
    omega arith

-- THE LAW: by word and letters is by position, decoy and letters
module _ (a b c d : ℕ) (xs ys : List ℕ) (p : Spelt xs) (q : Spelt ys) (m : b ≤ 1) (n : d ≤ 1) where
  keyed : (a * 2 + b < c * 2 + d → lex_le (a ∷ b ∷ xs) (c ∷ d ∷ ys) ≡ true)
      × (c * 2 + d < a * 2 + b → lex_le (a ∷ b ∷ xs) (c ∷ d ∷ ys) ≡ false)
      × (a * 2 + b ≡ c * 2 + d → lex_le (a ∷ b ∷ xs) (c ∷ d ∷ ys) ≡ lex_le xs ys)
  keyed = (up, down, level)
    where
      up : a * 2 + b < c * 2 + d → lex_le (a ∷ b ∷ xs) (c ∷ d ∷ ys) ≡ true
      up l = ⊎_elim (λ (g : a < c). lex_lt a c (b ∷ xs) (d ∷ ys) g)
          (λ (g : c ≤ a). lex_eq a c (b ∷ xs) (d ∷ ys) (omega arith) ∙ lex_lt b d xs ys (omega arith)) (below? a c)

      down : c * 2 + d < a * 2 + b → lex_le (a ∷ b ∷ xs) (c ∷ d ∷ ys) ≡ false
      down l = ⊎_elim (λ (g : c < a). lex_gt a c (b ∷ xs) (d ∷ ys) g)
          (λ (g : a ≤ c). lex_eq a c (b ∷ xs) (d ∷ ys) (omega arith) ∙ lex_gt b d xs ys (omega arith)) (below? c a)

      level : a * 2 + b ≡ c * 2 + d → lex_le (a ∷ b ∷ xs) (c ∷ d ∷ ys) ≡ lex_le xs ys
      level e = lex_eq a c (b ∷ xs) (d ∷ ys) (omega arith) ∙ lex_eq b d xs ys (omega arith)

  pub word-key : lex_le (digest_word a b xs ∷ xs) (digest_word c d ys ∷ ys) ≡ lex_le (a ∷ b ∷ xs) (c ∷ d ∷ ys)
  word-key = ⊎_elim fronts (λ (g : c * 2 + d ≤ a * 2 + b). ⊎_elim backs (levels g) (below? (c * 2 + d) (a * 2 + b))) (below? (a * 2 + b) (c * 2 + d))
    where
      fronts : a * 2 + b < c * 2 + d → lex_le (digest_word a b xs ∷ xs) (digest_word c d ys ∷ ys) ≡ lex_le (a ∷ b ∷ xs) (c ∷ d ∷ ys)
      fronts l = lex_lt (digest_word a b xs) (digest_word c d ys) xs ys (front_decides 6 (a * 2 + b) (c * 2 + d) xs ys p q l) ∙ sym (keyed.0 l)

      backs : c * 2 + d < a * 2 + b → lex_le (digest_word a b xs ∷ xs) (digest_word c d ys ∷ ys) ≡ lex_le (a ∷ b ∷ xs) (c ∷ d ∷ ys)
      backs l = lex_gt (digest_word a b xs) (digest_word c d ys) xs ys (front_decides 6 (c * 2 + d) (a * 2 + b) ys xs q p l) ∙ sym (keyed.1 l)

      levels : c * 2 + d ≤ a * 2 + b → a * 2 + b ≤ c * 2 + d → lex_le (digest_word a b xs ∷ xs) (digest_word c d ys ∷ ys) ≡ lex_le (a ∷ b ∷ xs) (c ∷ d ∷ ys)
      levels g f =
          let e : a * 2 + b ≡ c * 2 + d = omega arith in
          let v : digest_word c d ys ≡ packed (a * 2 + b) 6 ys = ap (λ (h : ℕ). packed h 6 ys) (sym e) in
          ⊎_elim (λ (l : packed (a * 2 + b) 6 xs < packed (a * 2 + b) 6 ys). less e v l)
          (λ (l : packed (a * 2 + b) 6 ys ≤ packed (a * 2 + b) 6 xs). ⊎_elim (more e v) (equal e v l) (below? (packed (a * 2 + b) 6 ys) (packed (a * 2 + b) 6 xs)))
          (below? (packed (a * 2 + b) 6 xs) (packed (a * 2 + b) 6 ys))
        where
          less : a * 2 + b ≡ c * 2 + d → digest_word c d ys ≡ packed (a * 2 + b) 6 ys → packed (a * 2 + b) 6 xs < packed (a * 2 + b) 6 ys
              → lex_le (digest_word a b xs ∷ xs) (digest_word c d ys ∷ ys) ≡ lex_le (a ∷ b ∷ xs) (c ∷ d ∷ ys)
          less e v l = lex_lt (digest_word a b xs) (digest_word c d ys) xs ys (omega arith) ∙ sym (keyed.2 e ∙ (words_ordered 6 (a * 2 + b) xs ys p q l).0)

          more : a * 2 + b ≡ c * 2 + d → digest_word c d ys ≡ packed (a * 2 + b) 6 ys → packed (a * 2 + b) 6 ys < packed (a * 2 + b) 6 xs
              → lex_le (digest_word a b xs ∷ xs) (digest_word c d ys ∷ ys) ≡ lex_le (a ∷ b ∷ xs) (c ∷ d ∷ ys)
          more e v l = lex_gt (digest_word a b xs) (digest_word c d ys) xs ys (omega arith) ∙ sym (keyed.2 e ∙ (words_ordered 6 (a * 2 + b) ys xs q p l).1)

          equal : a * 2 + b ≡ c * 2 + d → digest_word c d ys ≡ packed (a * 2 + b) 6 ys → packed (a * 2 + b) 6 ys ≤ packed (a * 2 + b) 6 xs
              → packed (a * 2 + b) 6 xs ≤ packed (a * 2 + b) 6 ys → lex_le (digest_word a b xs ∷ xs) (digest_word c d ys ∷ ys) ≡ lex_le (a ∷ b ∷ xs) (c ∷ d ∷ ys)
          equal e v l o = lex_eq (digest_word a b xs) (digest_word c d ys) xs ys (omega arith) ∙ sym (keyed.2 e)
