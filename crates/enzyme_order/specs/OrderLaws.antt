-- The order is total, and it says "the same" of equal letters only. Assumes nothing.
use Rattle.std.specs.Prelude.{ℕ, zero, suc, ◌≤◌, ◌<◌, ◌≡◌, refl, ◌⊎◌, List, [], ◌∷◌, length, drop, get_or}
use Rattle.std.proofs.Common.{sym, ap₂, ◌∙◌, inl, inr, ⊎_elim, arith, drop_of_length-le, drop-cons, lt-ltb, le-ltb}
use Rattle.std.proofs.lemmas.Cmp.{by_ranked, ranked}
use Rattle.std.specs.declared.cmp.Ordering.{Ordering}
use Rattle.std.specs.declared.cmp.Ordering.TheVariants.{Less, Equal, Greater}
use Rattle.std.specs.Ordering.{ordering_then, nat_cmp}
use Rattle.std.specs.Cmp.Lexicographic.{slice_cmp}
use Rattle.lists.specs.Tests.{below?}
use Rattle.lists.specs.SameLaws.{same-eq}
use Rattle.enzyme_cuts.specs.SameLaws.{AgreeTo, agree_all}
use Rattle.enzyme_order.specs.Order.{firstly, letterwise, compared}

pub firstly-below : (x y : ℕ) (r : Ordering) → x < y → firstly x y r ≡ Less
firstly-below x y r h = rw (lt-ltb x y h)

pub firstly_above : (x y : ℕ) (r : Ordering) → y < x → firstly x y r ≡ Greater
firstly_above x y r h = let l : y ≤ x = omega arith in rw (le-ltb x y l, lt-ltb y x h)

pub firstly-same : (x y : ℕ) (r : Ordering) → x ≡ y → firstly x y r ≡ r
firstly-same x y r h = let l : y ≤ x = omega arith in let g : x ≤ y = omega arith in rw (le-ltb x y l, le-ltb y x g)

-- the three ways of two numbers
data Way (x y : ℕ) : Type 0 where
  less : x < y → Way x y
  more : y < x → Way x y
  even : x ≡ y → Way x y

way : (x y : ℕ) → Way x y
way x y = ⊎_elim (λ (h : x < y). less h) (λ (h : y ≤ x). ⊎_elim (λ (g : y < x). more g) (λ (g : x ≤ y). even (omega arith)) (below? y x)) (below? x y)

-- one before the other, by the first that differ
first-zero : (x y : ℕ) (r : Ordering) → firstly x y r ≡ Less → (x < y) ⊎ ((x ≡ y) × (r ≡ Less))
first-zero x y r h = go (way x y)
  where
    go : Way x y → (x < y) ⊎ ((x ≡ y) × (r ≡ Less))
    go (less l) = inl l
    go (more l) = let e : ◌≡◌ {A = Ordering} Greater Less = sym (firstly_above x y r l) ∙ h in cc
    go (even l) = inr (l, sym (firstly-same x y r l) ∙ h)

first_one : (x y : ℕ) (r : Ordering) → firstly x y r ≡ Equal → (x ≡ y) × (r ≡ Equal)
first_one x y r h = go (way x y)
  where
    go : Way x y → (x ≡ y) × (r ≡ Equal)
    go (less l) = let e : ◌≡◌ {A = Ordering} Less Equal = sym (firstly-below x y r l) ∙ h in cc
    go (more l) = let e : ◌≡◌ {A = Ordering} Greater Equal = sym (firstly_above x y r l) ∙ h in cc
    go (even l) = (l, sym (firstly-same x y r l) ∙ h)

first_two : (x y : ℕ) (r : Ordering) → firstly x y r ≡ Greater → (y < x) ⊎ ((x ≡ y) × (r ≡ Greater))
first_two x y r h = go (way x y)
  where
    go : Way x y → (y < x) ⊎ ((x ≡ y) × (r ≡ Greater))
    go (less l) = let e : ◌≡◌ {A = Ordering} Less Greater = sym (firstly-below x y r l) ∙ h in cc
    go (more l) = inl l
    go (even l) = inr (l, sym (firstly-same x y r l) ∙ h)

first_trans : (x y z : ℕ) (p q r : Ordering) → firstly x y p ≡ Less → firstly y z q ≡ Less → (p ≡ Less → q ≡ Less → r ≡ Less) → firstly x z r ≡ Less
first_trans x y z p q r g h k = go (first-zero x y p g) (first-zero y z q h)
  where
    go : (x < y) ⊎ ((x ≡ y) × (p ≡ Less)) → (y < z) ⊎ ((y ≡ z) × (q ≡ Less)) → firstly x z r ≡ Less
    go (inl a) (inl b) = firstly-below x z r (omega arith)
    go (inl a) (inr b) = let u = b.0 in firstly-below x z r (omega arith)
    go (inr a) (inl b) = let u = a.0 in firstly-below x z r (omega arith)
    go (inr a) (inr b) = firstly-same x z r (a.0 ∙ b.0) ∙ k a.1 b.1

-- ---- letter by letter

letters_self : (a : List ℕ) → letterwise a a ≡ Equal
letters_self [] = refl
letters_self (x ∷ xs) = firstly-same x x (letterwise xs xs) refl ∙ letters_self xs

letters_equal : (a b : List ℕ) → letterwise a b ≡ Equal → a ≡ b
letters_equal [] [] h = refl
letters_equal [] (y ∷ ys) h = cc
letters_equal (x ∷ xs) [] h = cc
letters_equal (x ∷ xs) (y ∷ ys) h =
    let g = first_one x y (letterwise xs ys) h in
    ap₂ (λ (u : ℕ) (us : List ℕ). u ∷ us) g.0 (letters_equal xs ys g.1)

letters_flip : (a b : List ℕ) → letterwise a b ≡ Greater → letterwise b a ≡ Less
letters_flip [] [] h = cc
letters_flip [] (y ∷ ys) h = cc
letters_flip (x ∷ xs) [] h = refl
letters_flip (x ∷ xs) (y ∷ ys) h =
    ⊎_elim (λ (g : y < x). firstly-below y x (letterwise ys xs) g) (λ (g : (x ≡ y) × (letterwise xs ys ≡ Greater)). firstly-same y x (letterwise ys xs) (sym g.0) ∙ letters_flip xs ys g.1) (first_two x y (letterwise xs ys) h)

letters_trans : (a b c : List ℕ) → letterwise a b ≡ Less → letterwise b c ≡ Less → letterwise a c ≡ Less
letters_trans [] [] c h g = cc
letters_trans [] (y ∷ ys) [] h g = cc
letters_trans [] (y ∷ ys) (z ∷ zs) h g = refl
letters_trans (x ∷ xs) [] c h g = cc
letters_trans (x ∷ xs) (y ∷ ys) [] h g = cc
letters_trans (x ∷ xs) (y ∷ ys) (z ∷ zs) h g = first_trans x y z (letterwise xs ys) (letterwise ys zs) (letterwise xs zs) h g (λ p q. letters_trans xs ys zs p q)

-- ---- the order

pub order_self : (a : List ℕ) → compared a a ≡ Equal
unfolding compared
order_self a = firstly-same (length a) (length a) (letterwise a a) refl ∙ letters_self a

pub order_equal : (a b : List ℕ) → compared a b ≡ Equal → a ≡ b
unfolding compared
order_equal a b h = letters_equal a b (first_one (length a) (length b) (letterwise a b) h).1

pub order_flip : (a b : List ℕ) → compared a b ≡ Greater → compared b a ≡ Less
unfolding compared
order_flip a b h =
    ⊎_elim (λ (g : length b < length a). firstly-below (length b) (length a) (letterwise b a) g)
    (λ (g : (length a ≡ length b) × (letterwise a b ≡ Greater)). firstly-same (length b) (length a) (letterwise b a) (sym g.0) ∙ letters_flip a b g.1) (first_two (length a) (length b) (letterwise a b) h)

pub order_trans : (a b c : List ℕ) → compared a b ≡ Less → compared b c ≡ Less → compared a c ≡ Less
unfolding compared
order_trans a b c h g = first_trans (length a) (length b) (length c) (letterwise a b) (letterwise b c) (letterwise a c) h g (λ p q. letters_trans a b c p q)

-- ---- the comparison: by length, by the next letter, on, to the end

pub order_short : (a b : List ℕ) → length a < length b → compared a b ≡ Less
unfolding compared
order_short a b h = firstly-below (length a) (length b) (letterwise a b) h

pub order_long : (a b : List ℕ) → length b < length a → compared a b ≡ Greater
unfolding compared
order_long a b h = firstly_above (length a) (length b) (letterwise a b) h

pub order-start : (a b : List ℕ) → length a ≡ length b → letterwise (drop 0 a) (drop 0 b) ≡ compared a b
unfolding compared
order-start a b h = sym (firstly-same (length a) (length b) (letterwise a b) h)

letters-at : (a b : List ℕ) (i : ℕ) → i < length a → i < length b → letterwise (drop i a) (drop i b) ≡ firstly (get_or a i 0) (get_or b i 0) (letterwise (drop (suc i) a) (drop (suc i) b))
letters-at a b i h g = rw (drop-cons a i 0 h, drop-cons b i 0 g)

pub letters-below : (a b : List ℕ) (i : ℕ) → i < length a → i < length b → get_or a i 0 < get_or b i 0 → letterwise (drop i a) (drop i b) ≡ Less
letters-below a b i h g l = letters-at a b i h g ∙ firstly-below (get_or a i 0) (get_or b i 0) (letterwise (drop (suc i) a) (drop (suc i) b)) l

pub letters_above : (a b : List ℕ) (i : ℕ) → i < length a → i < length b → get_or b i 0 < get_or a i 0 → letterwise (drop i a) (drop i b) ≡ Greater
letters_above a b i h g l = letters-at a b i h g ∙ firstly_above (get_or a i 0) (get_or b i 0) (letterwise (drop (suc i) a) (drop (suc i) b)) l

pub letters-on : (a b : List ℕ) (i : ℕ) → i < length a → i < length b → get_or a i 0 ≡ get_or b i 0 → letterwise (drop i a) (drop i b) ≡ letterwise (drop (suc i) a) (drop (suc i) b)
letters-on a b i h g l = letters-at a b i h g ∙ firstly-same (get_or a i 0) (get_or b i 0) (letterwise (drop (suc i) a) (drop (suc i) b)) l

pub letters_end : (a b : List ℕ) (i : ℕ) → length a ≤ i → length b ≤ i → letterwise (drop i a) (drop i b) ≡ Equal
letters_end a b i h g = rw (drop_of_length-le a h, drop_of_length-le b g)

-- neither the same nor above
pub order_else : (a b : List ℕ) → (compared a b ≡ Equal → ⊥) → (compared a b ≡ Greater → ⊥) → compared a b ≡ Less
unfolding compared
order_else a b p q = go (way (length a) (length b))
  where
    rest : (a b : List ℕ) → (letterwise a b ≡ Equal → ⊥) → (letterwise a b ≡ Greater → ⊥) → letterwise a b ≡ Less
    rest [] [] p q = absurd (p refl)
    rest [] (y ∷ ys) p q = refl
    rest (x ∷ xs) [] p q = absurd (q refl)
    rest (x ∷ xs) (y ∷ ys) p q = at (way x y) (λ e. rest xs ys (λ h. p (firstly-same x y (letterwise xs ys) e ∙ h)) (λ h. q (firstly-same x y (letterwise xs ys) e ∙ h)))
      where
        at : Way x y → (x ≡ y → letterwise xs ys ≡ Less) → firstly x y (letterwise xs ys) ≡ Less
        at (less l) ih = firstly-below x y (letterwise xs ys) l
        at (more l) ih = absurd (q (firstly_above x y (letterwise xs ys) l))
        at (even l) ih = firstly-same x y (letterwise xs ys) l ∙ ih l

    go : Way (length a) (length b) → firstly (length a) (length b) (letterwise a b) ≡ Less
    go (less l) = firstly-below (length a) (length b) (letterwise a b) l
    go (more l) = absurd (q (firstly_above (length a) (length b) (letterwise a b) l))
    go (even l) =
        let z = firstly-same (length a) (length b) (letterwise a b) l in
        z ∙ rest a b (λ h. p (z ∙ h)) (λ h. q (z ∙ h))

-- ---- four letters at a time

alike_inside : (a b : List ℕ) (i : ℕ) → length a ≡ length b → i ≤ length a → AgreeTo a b i → letterwise (drop i a) (drop i b) ≡ compared a b
alike_inside a b zero e h k = order-start a b e
alike_inside a b (suc i) e h k =
    sym (letters-on a b i (omega arith) (omega arith) (k i (omega arith))) ∙ alike_inside a b i e (omega arith) (λ j l. k j (omega arith))

pub order-all : (a b : List ℕ) (i : ℕ) → length a ≡ length b → length a ≤ i → AgreeTo a b i → compared a b ≡ Equal
order-all a b i e h k = let g : a ≡ b = same-eq a b (agree_all a b i e h k) in rw g (order_self b)

pub order_alike : (a b : List ℕ) (i : ℕ) → length a ≡ length b → AgreeTo a b i → letterwise (drop i a) (drop i b) ≡ compared a b
order_alike a b i e k =
    ⊎_elim (λ (h : length a < i). letters_end a b i (omega arith) (omega arith) ∙ sym (order-all a b i e (omega arith) k))
    (λ (h : i ≤ length a). alike_inside a b i e h k) (below? (length a) i)

-- ---- as numbers and slices are compared

pub firstly-then : (x y : ℕ) (r : Ordering) → ordering_then (nat_cmp x y) r ≡ firstly x y r
firstly-then x y r = by_ranked (x < y) (x ≡ y) (y < x) (nat_cmp x y) (ranked x y (nat_cmp x y) refl)
    (λ e h. rw e (sym (firstly-below x y r h))) (λ e h. rw e (sym (firstly-same x y r h))) (λ e h. rw e (sym (firstly_above x y r h)))

pub letters-slices : (a b : List ℕ) → slice_cmp nat_cmp a b ≡ letterwise a b
letters-slices [] [] = refl
letters-slices [] (y ∷ ys) = refl
letters-slices (x ∷ xs) [] = refl
letters-slices (x ∷ xs) (y ∷ ys) = rw (letters-slices xs ys) (firstly-then x y (letterwise xs ys))

pub order-slices : (a b : List ℕ) → ordering_then (nat_cmp (length a) (length b)) (slice_cmp nat_cmp a b) ≡ compared a b
unfolding compared
order-slices a b = rw (letters-slices a b) (firstly-then (length a) (length b) (letterwise a b))
