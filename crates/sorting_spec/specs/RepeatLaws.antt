-- What has an equal before it in a list stands right after an equal in the sorted list, and only that. So the first repeat of a
-- list is found by one pass over the sorted list. Assumes nothing.
use Rattle.std.specs.Prelude.{◌≡◌, refl, Bool, true, false, cond, ◌⊎◌, List, [], ◌∷◌}
use Rattle.std.proofs.Common.{sym, ap, ◌∙◌, inl, inr, ⊎_elim}
use Rattle.lists.specs.Lists.{In}
use Rattle.lists.specs.Tests.{clash}
use Rattle.sorting_spec.specs.Sort.{insert, sorted}
use Rattle.sorting_spec.specs.SortLaws.{Orders, Ordered, in_sorted, sorted_in, sorted_ordered}

module _ {A : Type 0} (le : A → A → Bool) where
  -- i is the first of a list, and equal to x before it
  abbrev pub After : A → A → List A → Type 0
  After x i [] = ⊥
  After x i (y ∷ ys) = (i ≡ y) × (le y x ≡ true)

  -- i stands right after an equal
  abbrev pub Second : A → List A → Type 0
  Second i [] = ⊥
  Second i (x ∷ xs) = After x i xs ⊎ Second i xs

  -- i has an equal somewhere before it
  abbrev pub Later : A → List A → Type 0
  Later i [] = ⊥
  Later i (x ∷ xs) = ((le x i ≡ true) × (le i x ≡ true) × In i xs) ⊎ Later i xs

  module _ (o : Orders le) where
    -- only what has an equal before it
    after-insert : (x y i : A) (s : List A) → le x y ≡ false → After y i (insert le x s) → After y i s
    after-insert x y i [] e h = clash h.1 e
    after-insert x y i (z ∷ zs) e h = go (le x z) h
      where
        go : (t : Bool) → After y i (cond t (x ∷ z ∷ zs) (z ∷ insert le x zs)) → After y i (z ∷ zs)
        go true h = clash h.1 e
        go false h = h

    sound-insert : (x i : A) (s : List A) → Second i (insert le x s) → ((le x i ≡ true) × (le i x ≡ true) × In i s) ⊎ Second i s
    sound-insert x i [] (inl h) = absurd h
    sound-insert x i [] (inr h) = absurd h
    sound-insert x i (y ∷ ys) h = go (le x y) refl h (sound-insert x i ys)
      where
        go : (t : Bool) → le x y ≡ t → Second i (cond t (x ∷ y ∷ ys) (y ∷ insert le x ys))
            → (Second i (insert le x ys) → ((le x i ≡ true) × (le i x ≡ true) × In i ys) ⊎ Second i ys)
            → ((le x i ≡ true) × (le i x ≡ true) × In i (y ∷ ys)) ⊎ Second i (y ∷ ys)
        go true e (inl a) r = inl (ap (le x) a.0 ∙ e, ap (λ (k : A). le k x) a.0 ∙ a.1, inl a.0)
        go true e (inr s) r = inr s
        go false e (inl a) r = inr (inl (after-insert x y i ys e a))
        go false e (inr s) r = ⊎_elim (λ k. inl (k.0, k.1, inr k.2)) (λ k. inr (inr k)) (r s)

    pub sound : (i : A) (xs : List A) → Second i (sorted le xs) → Later i xs
    sound i [] h = h
    sound i (x ∷ xs) h = ⊎_elim (λ k. inl (k.0, k.1, sorted_in le i xs k.2)) (λ k. inr (sound i xs k)) (sound-insert x i (sorted le xs) h)

    -- all that has an equal before it
    insert-after : (x y i : A) (s : List A) → le x y ≡ false → After y i s → After y i (insert le x s)
    insert-after x y i [] e h = absurd h
    insert-after x y i (z ∷ zs) e h = go (le x z) refl
      where
        go : (t : Bool) → le x z ≡ t → After y i (cond t (x ∷ z ∷ zs) (z ∷ insert le x zs))
        go true q = clash (o.trans x z y q h.1) e
        go false q = h

    keep : (x i : A) (s : List A) → Second i s → Second i (insert le x s)
    keep x i [] h = absurd h
    keep x i (y ∷ ys) h = go (le x y) refl h (keep x i ys)
      where
        go : (t : Bool) → le x y ≡ t → Second i (y ∷ ys) → (Second i ys → Second i (insert le x ys)) → Second i (cond t (x ∷ y ∷ ys) (y ∷ insert le x ys))
        go true e h r = inr h
        go false e (inl a) r = inl (insert-after x y i ys e a)
        go false e (inr s) r = inr (r s)

    run : (y i : A) (s : List A) → Ordered le (y ∷ s) → In i s → le i y ≡ true → Second i (y ∷ s)
    run y i [] h k q = absurd k
    run y i (z ∷ zs) h (inl e) q = inl (e, sym (ap (λ (k : A). le k y) e) ∙ q)
    run y i (z ∷ zs) h (inr k) q = inr (run z i zs h.1 k (o.trans i y z q h.0))

    hit : (x i : A) (s : List A) → Ordered le s → In i s → le x i ≡ true → le i x ≡ true → Second i (insert le x s)
    hit x i [] h k p q = absurd k
    hit x i (y ∷ ys) h k p q = go (le x y) refl k (λ m. hit x i ys h.1 m p q)
      where
        go : (t : Bool) → le x y ≡ t → In i (y ∷ ys) → (In i ys → Second i (insert le x ys)) → Second i (cond t (x ∷ y ∷ ys) (y ∷ insert le x ys))
        go true e (inl n) r = inl (n, sym (ap (λ (k : A). le k x) n) ∙ q)
        go true e (inr m) r = inr (run y i ys h m (o.trans i x y q e))
        go false e (inl n) r = clash (sym (ap (le x) n) ∙ p) e
        go false e (inr m) r = inr (r m)

    pub complete : (i : A) (xs : List A) → Later i xs → Second i (sorted le xs)
    complete i [] h = h
    complete i (x ∷ xs) (inl k) = hit x i (sorted le xs) (sorted_ordered le o xs) (in_sorted le i xs k.2) k.0 k.1
    complete i (x ∷ xs) (inr k) = keep x i (sorted le xs) (complete i xs k)
