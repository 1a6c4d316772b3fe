-- Things that go by texts, sorted, with the numbers of their runs: what is gathered for each distinct text, group by group, is one walk
-- over them, and the distinct texts spread out are the texts of the first of each run. Assumes nothing.
use Rattle.std.specs.Prelude.{◌≡◌, refl, Bool, true, false, cond, List, [], ◌∷◌, ◌++◌, map, ℕ, suc, ◌+◌, ◌≤◌, ◌<◌, eqb, length, take, drop}
use Rattle.std.proofs.Common.{sym, ap, ◌∙◌, inl, inr, add-one, arith, eq-eqb, ne_eqb, length-append}
use Rattle.lists.specs.Lists.{In, keep, same}
use Rattle.lists.specs.Tests.{clash}
use Rattle.lists.specs.SameLaws.{same_refl, same-eq}
use Rattle.lists.specs.KeyLaws.{Under}
use Rattle.lists.specs.TotalLaws.{total}
use Rattle.sorting_spec.specs.Sort.{sorted}
use Rattle.sorting_spec.specs.SortLaws.{sorted_in}
use Rattle.sorting_spec.specs.Lex.{lex_le}
use Rattle.sorting_spec.specs.Runs.{equals_after, runs_of, joined, next, numbers_from, run_numbers}
use Rattle.sorting_spec.specs.RunLaws.{run-behind}
use Rattle.sorting_spec.specs.Distinct.{once_after, once, distinct}
use Rattle.sorting_spec.specs.DistinctLaws.{runs_distinct}
use Rattle.cover_spec.specs.Cover.{Edge}
use Rattle.protein_groups_spec.specs.ProteinGroups.{edges_from}
use Rattle.protein_groups_spec.specs.CountingLaws.{along, metas_in}

-- ---- a walk over things with numbers

module _ {A : Type 0} (f : ℕ → ℕ → A) where
  abbrev pub walk_by : List ℕ → List ℕ → List A
  walk_by [] xs = []
  walk_by (g ∷ gs) [] = []
  walk_by (g ∷ gs) (x ∷ xs) = f g x ∷ walk_by gs xs

  -- lists, each with its number, from g on
  abbrev pub runs_tagged : ℕ → List (List ℕ) → List A
  runs_tagged g [] = []
  runs_tagged g (r ∷ rs) = map (f g) r ++ runs_tagged (suc g) rs

  walk_from : (le : ℕ → ℕ → Bool) (g p : ℕ) (xs : List ℕ) → f g p ∷ walk_by (numbers_from le g p xs) xs ≡ runs_tagged g (runs_of le (p ∷ xs))
  walk_from le g p [] = refl
  walk_from le g p (x ∷ xs) =
      ap (λ (l : List A). f g p ∷ l) (walk_from le (next le g p x) x xs ∙ ap (runs_tagged (next le g p x)) (run-behind le x xs))
      ∙ go (le x p)
      ∙ sym (ap (λ (rs : List (List ℕ)). runs_tagged g (joined le p rs)) (run-behind le x xs))
    where
      go : (t : Bool)
          → f g p ∷ runs_tagged (cond t g (g + 1)) ((x ∷ take (equals_after le x xs) xs) ∷ runs_of le (drop (equals_after le x xs) xs))
          ≡ runs_tagged g (cond t ((p ∷ x ∷ take (equals_after le x xs) xs) ∷ runs_of le (drop (equals_after le x xs) xs)) ((p ∷ []) ∷ (x ∷ take (equals_after le x xs) xs) ∷ runs_of le (drop (equals_after le x xs) xs)))
      go true = refl
      go false = ap (λ (n : ℕ). f g p ∷ runs_tagged n ((x ∷ take (equals_after le x xs) xs) ∷ runs_of le (drop (equals_after le x xs) xs))) (add-one g)

  pub walk_runs : (le : ℕ → ℕ → Bool) (s : List ℕ) → walk_by (run_numbers le s) s ≡ runs_tagged 0 (runs_of le s)
  walk_runs le [] = refl
  walk_runs le (x ∷ xs) = walk_from le 0 x xs

-- ---- texts spread out

-- what is once in a list, and what is distinct in it, stands in it
once-after_in : (d l : List ℕ) (ms : List (List ℕ)) → In d (once_after l ms) → In d ms
once-after_in d l [] h = h
once-after_in d l (m ∷ ms) h = go (same m l) h (once-after_in d m ms)
  where
    go : (t : Bool) → In d (cond t (once_after m ms) (m ∷ once_after m ms)) → (In d (once_after m ms) → In d ms) → In d (m ∷ ms)
    go true h r = inr (r h)
    go false (inl e) r = inl e
    go false (inr k) r = inr (r k)

pub distinct_in : (d : List ℕ) (ls : List (List ℕ)) → In d (distinct ls) → In d ls
distinct_in d ls h = sorted_in lex_le d ls (go (sorted lex_le ls) h)
  where
    go : (ms : List (List ℕ)) → In d (once ms) → In d ms
    go [] h = h
    go (m ∷ ms) (inl e) = inl e
    go (m ∷ ms) (inr k) = inr (once-after_in d m ms k)

module _ (text : ℕ → List ℕ) where
  abbrev pub le_texts : ℕ → ℕ → Bool
  le_texts a b = lex_le (text a) (text b)

  -- the texts of the first of each run, by the numbers of the runs; `seen` is the next number
  abbrev pub spread_by : ℕ → List ℕ → List ℕ → List Edge
  spread_by seen [] xs = []
  spread_by seen (g ∷ gs) [] = []
  spread_by seen (g ∷ gs) (x ∷ xs) = cond (eqb g seen) (along g (text x) ++ spread_by (seen + 1) gs xs) (spread_by seen gs xs)

  -- of sorted things
  abbrev pub spread_sorted : List ℕ → List Edge
  spread_sorted s = spread_by 0 (run_numbers le_texts s) s

  abbrev pub walk_sorted : {A : Type 0} → (ℕ → ℕ → A) → List ℕ → List A
  walk_sorted f s = walk_by f (run_numbers le_texts s) s

  -- the first of each run
  abbrev headed : ℕ → List (List ℕ) → List Edge
  headed g [] = []
  headed g ([] ∷ rs) = headed (suc g) rs
  headed g ((x ∷ r) ∷ rs) = along g (text x) ++ headed (suc g) rs

  spread_from : (g p : ℕ) (xs : List ℕ) → spread_by (g + 1) (numbers_from le_texts g p xs) xs ≡ headed (suc g) (runs_of le_texts (drop (equals_after le_texts p xs) xs))
  spread_from g p [] = refl
  spread_from g p (x ∷ xs) = go (le_texts x p) (λ k. spread_from k x xs)
    where
      go : (t : Bool) → ((k : ℕ) → spread_by (k + 1) (numbers_from le_texts k x xs) xs ≡ headed (suc k) (runs_of le_texts (drop (equals_after le_texts x xs) xs)))
          → cond (eqb (cond t g (g + 1)) (g + 1)) (along (cond t g (g + 1)) (text x) ++ spread_by (g + 1 + 1) (numbers_from le_texts (cond t g (g + 1)) x xs) xs) (spread_by (g + 1) (numbers_from le_texts (cond t g (g + 1)) x xs) xs)
          ≡ headed (suc g) (runs_of le_texts (drop (cond t (suc (equals_after le_texts x xs)) 0) (x ∷ xs)))
      go true r = rw (ne_eqb g (g + 1) (λ (z : g ≡ g + 1). let f : ⊥ = omega arith in f)) (r g)
      go false r =
          rw (eq-eqb (g + 1) (g + 1) refl, run-behind le_texts x xs)
          (ap (λ (l : List Edge). along (g + 1) (text x) ++ l) (r (g + 1)) ∙ rw (add-one g))

  spread_runs : (s : List ℕ) → spread_sorted s ≡ headed 0 (runs_of le_texts s)
  spread_runs [] = refl
  spread_runs (x ∷ xs) = ap (λ (l : List Edge). along 0 (text x) ++ l) (spread_from 0 x xs) ∙ sym (ap (headed 0) (run-behind le_texts x xs))

  -- of the things that have a text, the first has it
  first-has : (g : ℕ) (d : List ℕ) (rs : List (List ℕ)) (ns : List ℕ) → In d (map text ns) → headed g (keep (λ n. same (text n) d) ns ∷ rs) ≡ along g d ++ headed (suc g) rs
  first-has g d rs [] h = absurd h
  first-has g d rs (n ∷ ns) h = go (same (text n) d) refl h (first-has g d rs ns)
    where
      go : (t : Bool) → same (text n) d ≡ t → In d (text n ∷ map text ns) → (In d (map text ns) → headed g (keep (λ n. same (text n) d) ns ∷ rs) ≡ along g d ++ headed (suc g) rs)
          → headed g (cond t (n ∷ keep (λ n. same (text n) d) ns) (keep (λ n. same (text n) d) ns) ∷ rs) ≡ along g d ++ headed (suc g) rs
      go true e h r = ap (λ (l : List ℕ). along g l ++ headed (suc g) rs) (same-eq (text n) d e)
      go false e (inl q) r = clash (rw (sym q) (same_refl d)) e
      go false e (inr k) r = r k

  headed-edges : (ns : List ℕ) (g : ℕ) (ds : List (List ℕ)) → ((d : List ℕ) → In d ds → In d (map text ns))
      → headed g (map (λ k. keep (λ n. same (text n) k) ns) ds) ≡ edges_from g ds
  headed-edges ns g [] h = refl
  headed-edges ns g (d ∷ ds) h =
      first-has g d (map (λ k. keep (λ n. same (text n) k) ns) ds) ns (h d (inl refl))
      ∙ ap (λ (l : List Edge). along g d ++ l) (headed-edges ns (suc g) ds (λ k q. h k (inr q)))

  -- THE LAW of the edges
  pub edges_spread : (ns : List ℕ) → edges_from 0 (distinct (map text ns)) ≡ spread_sorted (sorted le_texts ns)
  edges_spread ns =
      sym (
      spread_runs (sorted le_texts ns)
      ∙ ap (headed 0) (runs_distinct text ns)
      ∙ headed-edges ns 0 (distinct (map text ns)) (λ d q. distinct_in d (map text ns) q)
      )

  -- THE LAW of what is gathered
  pub gathered_walk : {A : Type 0} (f : ℕ → ℕ → A) (ns : List ℕ)
      → runs_tagged f 0 (map (λ k. keep (λ n. same (text n) k) ns) (distinct (map text ns))) ≡ walk_sorted f (sorted le_texts ns)
  gathered_walk f ns = ap (runs_tagged f 0) (sym (runs_distinct text ns)) ∙ sym (walk_runs f le_texts (sorted le_texts ns))

  -- how long all texts are together
  abbrev pub texts_length : List ℕ → ℕ
  texts_length = total (λ (x : ℕ). length (text x))

  long_along : (g : ℕ) (l : List ℕ) → length (along g l) ≡ length l
  long_along g [] = refl
  long_along g (x ∷ xs) = ap suc (long_along g xs)

  pub spread_most : (k : ℕ) (gs xs : List ℕ) → length (spread_by k gs xs) ≤ texts_length xs
  spread_most k [] xs = omega arith
  spread_most k (g ∷ gs) [] = omega arith
  spread_most k (g ∷ gs) (x ∷ xs) = go (eqb g k) (spread_most k gs xs) (spread_most (k + 1) gs xs)
    where
      go : (t : Bool) → length (spread_by k gs xs) ≤ texts_length xs → length (spread_by (k + 1) gs xs) ≤ texts_length xs
          → length (cond t (along g (text x) ++ spread_by (k + 1) gs xs) (spread_by k gs xs)) ≤ length (text x) + texts_length xs
      go true a b = omega (arith, length-append (along g (text x)) (spread_by (k + 1) gs xs), long_along g (text x))
      go false a b = omega arith

  -- what is spread out is below what all texts are
  under_along : (k g : ℕ) (xs : List ℕ) (es : List Edge) → Under k xs → Under k (metas_in es) → Under k (metas_in (along g xs ++ es))
  under_along k g [] es u v = v
  under_along k g (x ∷ xs) es u v = (u.0, under_along k g xs es u.1 v)

  pub spread_under : (k m n : ℕ) (gs xs : List ℕ) → ((x : ℕ) → x < m → Under k (text x)) → Under m xs → Under k (metas_in (spread_by n gs xs))
  spread_under k m n [] xs h u = tt
  spread_under k m n (g ∷ gs) [] h u = tt
  spread_under k m n (g ∷ gs) (x ∷ xs) h u = go (eqb g n) (spread_under k m n gs xs h u.1) (spread_under k m (n + 1) gs xs h u.1)
    where
      go : (t : Bool) → Under k (metas_in (spread_by n gs xs)) → Under k (metas_in (spread_by (n + 1) gs xs))
          → Under k (metas_in (cond t (along g (text x) ++ spread_by (n + 1) gs xs) (spread_by n gs xs)))
      go true a b = under_along k g (text x) (spread_by (n + 1) gs xs) (h x u.0) b
      go false a b = a
