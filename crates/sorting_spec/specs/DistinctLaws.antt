-- Things that go by texts: the runs of the sorted things are, for each distinct text in order, the things that have it, as they
-- stood. Assumes nothing.
use Rattle.std.specs.Prelude.{◌≡◌, refl, Bool, true, false, cond, List, [], ◌∷◌, map, ℕ, length}
use Rattle.std.proofs.Common.{subst, sym, ap, ◌∙◌}
use Rattle.std.proofs.lemmas.List.{length-map}
use Rattle.lists.specs.SameLaws.{same_refl, same-eq}
use Rattle.lists.specs.Tests.{clash}
use Rattle.lists.specs.Lists.{keep, same}
use Rattle.sorting_spec.specs.Sort.{insert, sorted}
use Rattle.sorting_spec.specs.SortLaws.{Orders, Ordered, sorted_ordered, sorted-map}
use Rattle.sorting_spec.specs.Lex.{lex_le}
use Rattle.sorting_spec.specs.LexLaws.{lex_antisym, lex_refl, by_list}
use Rattle.sorting_spec.specs.Runs.{joined, runs_of}
use Rattle.sorting_spec.specs.Distinct.{once, once_after, distinct}

module _ {A : Type 0} (text : A → List ℕ) where
  abbrev le : A → A → Bool
  le a b = lex_le (text a) (text b)

  o : Orders (λ (a b : A). lex_le (text a) (text b))
  o = by_list text

  -- of an ordered pair, `same` is the test of the other way round
  same-le : (x p : A) → le p x ≡ true → same (text x) (text p) ≡ le x p
  same-le x p h = go (le x p) (same (text x) (text p)) refl refl
    where
      go : (t u : Bool) → le x p ≡ t → same (text x) (text p) ≡ u → u ≡ t
      go true true q r = refl
      go true false q r =
          let e : text x ≡ text p = lex_antisym (text x) (text p) q h in
          clash (rw e (same_refl (text p))) r
      go false true q r =
          let e : text x ≡ text p = same-eq (text x) (text p) r in
          clash (rw e (lex_refl (text p))) q
      go false false q r = refl

  -- the first of each run, behind p
  abbrev leads_after : A → List A → List A
  leads_after p [] = []
  leads_after p (x ∷ xs) = let rest = leads_after x xs in cond (le x p) rest (x ∷ rest)

  abbrev leads : List A → List A
  leads [] = []
  leads (x ∷ xs) = x ∷ leads_after x xs

  once_after_lem : (p : A) (s : List A) → Ordered le (p ∷ s) → once_after (text p) (map text s) ≡ map text (leads_after p s)
  once_after_lem p [] h = refl
  once_after_lem p (x ∷ xs) h = go (le x p) (same-le x p h.0) (once_after_lem x xs h.1)
    where
      go : (t : Bool) → same (text x) (text p) ≡ t → once_after (text x) (map text xs) ≡ map text (leads_after x xs)
          → once_after (text p) (map text (x ∷ xs)) ≡ map text (cond t (leads_after x xs) (x ∷ leads_after x xs))
      go true e r = simp e r
      go false e r = simp e (ap (λ (l : List (List ℕ)). text x ∷ l) r)

  once-leads : (s : List A) → Ordered le s → once (map text s) ≡ map text (leads s)
  once-leads [] h = refl
  once-leads (x ∷ xs) h = ap (λ (l : List (List ℕ)). text x ∷ l) (once_after_lem x xs h)

  -- THE LAW of the distinct texts
  distinct-leads : (ns : List A) → distinct (map text ns) ≡ map text (leads (sorted le ns))
  distinct-leads ns = ap once (sorted-map lex_le text ns) ∙ once-leads (sorted le ns) (sorted_ordered le o ns)

  -- all of a list of leaders stand behind q
  abbrev Behind : A → List A → Type 0
  Behind q [] = Unit {0}
  Behind q (l ∷ ls) = (le l q ≡ false) × Behind q ls

  behind : (q p : A) (s : List A) → Ordered le (p ∷ s) → le q p ≡ true → Behind q (leads_after p s)
  behind q p [] h k = tt
  behind q p (x ∷ xs) h k = go (le x p) refl (behind q x xs h.1 (o.trans q p x k h.0))
    where
      not_before : (t : Bool) → le x q ≡ t → le x p ≡ false → le x q ≡ false
      not_before true e f = clash (o.trans x q p e k) f
      not_before false e f = e

      go : (t : Bool) → le x p ≡ t → Behind q (leads_after x xs) → Behind q (cond t (leads_after x xs) (x ∷ leads_after x xs))
      go true e r = r
      go false e r = (not_before (le x q) refl e, r)

  -- nothing behind a later run's first has p's text
  unlike : (p x : A) → le x p ≡ false → same (text x) (text p) ≡ false
  unlike p x e = go (same (text x) (text p)) refl
    where
      go : (t : Bool) → same (text x) (text p) ≡ t → same (text x) (text p) ≡ false
      go true q = let z : text x ≡ text p = same-eq (text x) (text p) q in clash (rw z (lex_refl (text p))) e
      go false q = q

  none : (p x : A) (xs : List A) → le x p ≡ false → Ordered le (x ∷ xs) → keep (λ k. same (text k) (text p)) (x ∷ xs) ≡ []
  none p x [] e h = simp (unlike p x e)
  none p x (y ∷ ys) e h = simp (unlike p x e) (none p y ys (later (le y p) refl) h.1)
    where
      later : (t : Bool) → le y p ≡ t → le y p ≡ false
      later true q = clash (o.trans x y p h.0 q) e
      later false q = q

  -- stability: what has one text stands in a sorted list as it stood before
  keep-insert : (l : List ℕ) (x : A) (s : List A) → keep (λ k. same (text k) l) (insert le x s) ≡ keep (λ k. same (text k) l) (x ∷ s)
  keep-insert l x [] = refl
  keep-insert l x (y ∷ ys) = go (le x y) (same (text x) l) (same (text y) l) refl refl refl (keep-insert l x ys)
    where
      go : (t a b : Bool) → le x y ≡ t → same (text x) l ≡ a → same (text y) l ≡ b
          → keep (λ k. same (text k) l) (insert le x ys) ≡ keep (λ k. same (text k) l) (x ∷ ys)
          → keep (λ k. same (text k) l) (cond t (x ∷ y ∷ ys) (y ∷ insert le x ys)) ≡ keep (λ k. same (text k) l) (x ∷ y ∷ ys)
      go true a b e p q r = refl
      go false true true e p q r =
          let u : text x ≡ l = same-eq (text x) l p in
          let v : text y ≡ l = same-eq (text y) l q in
          clash (rw (u, v) (lex_refl l)) e
      go false true false e p q r = simp (p, q) (rw p at r)
      go false false true e p q r = simp (p, q) (ap (λ (m : List A). y ∷ m) (rw p at r))
      go false false false e p q r = simp (p, q) (rw p at r)

  pub keep-sorted : (l : List ℕ) (s : List A) → keep (λ k. same (text k) l) (sorted le s) ≡ keep (λ k. same (text k) l) s
  keep-sorted l [] = refl
  keep-sorted l (x ∷ xs) =
      keep-insert l x (sorted le xs) ∙ ap (λ (m : List A). cond (same (text x) l) (x ∷ m) m) (keep-sorted l xs)

  -- for each of some things, those of a list that have its text
  abbrev gathered : List A → List A → List (List A)
  gathered s ls = map (λ l. keep (λ k. same (text k) (text l)) s) ls

  -- what has none of the texts is passed over
  skip : (y : A) (s ls : List A) → Behind y ls → gathered (y ∷ s) ls ≡ gathered s ls
  skip y s [] h = refl
  skip y s (l ∷ ls) h = go (same (text y) (text l)) refl (skip y s ls h.1)
    where
      go : (t : Bool) → same (text y) (text l) ≡ t → gathered (y ∷ s) ls ≡ gathered s ls → gathered (y ∷ s) (l ∷ ls) ≡ gathered s (l ∷ ls)
      go true e r =
          let q : text y ≡ text l = same-eq (text y) (text l) e in
          clash (rw q (lex_refl (text l))) h.0
      go false e r = simp e (ap (λ (m : List (List A)). keep (λ k. same (text k) (text l)) s ∷ m) r)

  together : (x : A) (xs : List A) → Ordered le (x ∷ xs) → (x ∷ keep (λ k. same (text k) (text x)) xs) ∷ gathered xs (leads_after x xs) ≡ runs_of le (x ∷ xs)
  together x [] h = refl
  together x (y ∷ ys) h = go (le y x) refl (together y ys h.1)
    where
      behind-y : gathered (y ∷ ys) (leads_after y ys) ≡ gathered ys (leads_after y ys)
      behind-y = skip y ys (leads_after y ys) (behind y y ys h.1 (lex_refl (text y)))

      go : (t : Bool) → le y x ≡ t → (y ∷ keep (λ k. same (text k) (text y)) ys) ∷ gathered ys (leads_after y ys) ≡ runs_of le (y ∷ ys)
          → (x ∷ keep (λ k. same (text k) (text x)) (y ∷ ys)) ∷ gathered (y ∷ ys) (cond t (leads_after y ys) (y ∷ leads_after y ys)) ≡ runs_of le (x ∷ y ∷ ys)
      go true e r =
          let q : text x ≡ text y = lex_antisym (text x) (text y) h.0 e in
          subst (λ (t : List ℕ). (x ∷ keep (λ k. same (text k) t) (y ∷ ys)) ∷ gathered (y ∷ ys) (leads_after y ys) ≡ joined le x (runs_of le (y ∷ ys)))
          (sym q) (rw (same_refl (text y), behind-y) (sym (ap (joined le x) (sym r) ∙ rw e)))
      go false e r =
          rw (none x y ys e h.1, same_refl (text y), behind-y) (sym (ap (joined le x) (sym r) ∙ rw e))

  all : (s : List A) → Ordered le s → gathered s (leads s) ≡ runs_of le s
  all [] h = refl
  all (x ∷ xs) h =
      rw (same_refl (text x), skip x xs (leads_after x xs) (behind x x xs h (lex_refl (text x)))) (together x xs h)

  stable : (ns ls : List A) → map (λ k. keep (λ n. same (text n) k) ns) (map text ls) ≡ gathered (sorted le ns) ls
  stable ns [] = refl
  stable ns (l ∷ ls) =
      ap (λ (m : List A). m ∷ map (λ k. keep (λ n. same (text n) k) ns) (map text ls)) (sym (keep-sorted (text l) ns))
      ∙ ap (λ (m : List (List A)). keep (λ k. same (text k) (text l)) (sorted le ns) ∷ m) (stable ns ls)

  -- THE LAW
  pub runs_distinct : (ns : List A)
      → runs_of (λ (a b : A). lex_le (text a) (text b)) (sorted (λ (a b : A). lex_le (text a) (text b)) ns) ≡ map (λ k. keep (λ n. same (text n) k) ns) (distinct (map text ns))
  runs_distinct ns =
      sym (
      ap (map (λ k. keep (λ n. same (text n) k) ns)) (distinct-leads ns)
      ∙ stable ns (leads (sorted le ns))
      ∙ all (sorted le ns) (sorted_ordered le o ns)
      )

  -- as many runs as there are distinct texts
  pub count-distinct : (ns : List A)
      → length (runs_of (λ (a b : A). lex_le (text a) (text b)) (sorted (λ (a b : A). lex_le (text a) (text b)) ns)) ≡ length (distinct (map text ns))
  count-distinct ns = ap length (runs_distinct ns) ∙ length-map (distinct (map text ns)) (λ k. keep (λ n. same (text n) k) ns)
