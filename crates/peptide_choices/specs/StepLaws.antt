-- The choice after a choice, by the last place that can move. Assumes nothing.
use Rattle.std.specs.Prelude.{ℕ, zero, suc, ◌+◌, ◌-◌, ◌≤◌, ◌<◌, ◌≡◌, refl, List, [], ◌∷◌, ◌++◌, length, get_or, take, drop, set}
use Rattle.std.proofs.Common.{sym, ap, ◌∙◌, arith, add-one, zero-add, suc-add, length-drop, length-take-le, drop-cons, get_or-drop, get_or-take, take-take, lt-ltb, le-ltb}
use Rattle.std.proofs.Math.Option.{none, some}
use Rattle.std.proofs.Math.Seq.{split_at, append_snoc}
use Rattle.std.proofs.lemmas.List.{set_at}
use Rattle.lists.specs.RowLaws.{length_up, up-snoc}
use Rattle.lists.specs.Lists.{up_from}
use Rattle.peptide_choices.specs.Steps.{move, past}

pub past-none : (m e : ℕ) (l : List ℕ) → ((j : ℕ) → j < e → j < length l → m ≤ get_or l j 0 + (length l - j)) → past m e l ≡ none
unfolding past move
past-none m zero l h = refl
past-none m (suc e) [] h = refl
past-none m (suc e) (a ∷ l) h = go (past-none m e l (λ j f g. let q : m ≤ get_or l j 0 + (suc (length l) - suc j) = h (suc j) (omega arith) (omega arith) in omega arith))
  where
    go : past m e l ≡ none → move m a l (past m e l) ≡ none
    go e = rw (e, le-ltb (a + suc (length l)) m (let q : m ≤ a + (suc (length l) - 0) = h 0 (omega arith) (omega arith) in omega arith))

-- the place a moves, since none after it can
pub past-some : (m a f : ℕ) (p s : List ℕ) → past m f s ≡ none → a + suc (length s) < m → past m (length p + suc f) (p ++ (a ∷ s)) ≡ some (p ++ up_from (suc a) (suc (length s)))
unfolding past move
past-some m a f [] s e h = rw (zero-add (suc f), e, lt-ltb (a + suc (length s)) m h)
past-some m a f (b ∷ p) s e h = rw (suc-add (length p) (suc f), past-some m a f p s e h)

-- ---- by the places of an array
pub step_none : (xs : List ℕ) (n m e : ℕ) → n ≤ length xs → ((j : ℕ) → j < e → j < n → m ≤ get_or xs j 0 + (n - j)) → past m e (take n xs) ≡ none
step_none xs n m e h f = past-none m e (take n xs) (λ j g i. at j g (omega (arith, len)))
  where
    len : length (take n xs) ≡ n
    len = length-take-le n xs h

    at : (j : ℕ) → j < e → j < n → m ≤ get_or (take n xs) j 0 + (length (take n xs) - j)
    at j g i = rw (get_or-take n xs j 0 i, len) (f j g i)

pub step_some : (xs : List ℕ) (n m i e : ℕ) → n ≤ length xs → i < n → i < e → get_or xs i 0 + (n - i) < m → ((j : ℕ) → i < j → j < e → j < n → m ≤ get_or xs j 0 + (n - j))
    → past m e (take n xs) ≡ some (take i xs ++ up_from (suc (get_or xs i 0)) (n - i))
step_some xs n m i e h b c room f =
    ap (past m e) cut
    ∙ ap (λ (z : ℕ). past m z (take i xs ++ (get_or xs i 0 ∷ s))) split
    ∙ past-some m (get_or xs i 0) (e - suc i) (take i xs) s (past-none m (e - suc i) s stuck) (omega (arith, s_len))
    ∙ ap (λ (z : ℕ). some (take i xs ++ up_from (suc (get_or xs i 0)) z)) (let q : suc (length s) ≡ n - i = omega (arith, s_len) in q)
  where
    s : List ℕ
    s = drop (suc i) (take n xs)

    len : length (take n xs) ≡ n
    len = length-take-le n xs h

    s_len : length s ≡ n - suc i
    s_len = length-drop (suc i) (take n xs) ∙ ap (λ (z : ℕ). z - suc i) len

    split : e ≡ length (take i xs) + suc (e - suc i)
    split = let q : length (take i xs) ≡ i = length-take-le i xs (omega arith) in omega arith

    cut : take n xs ≡ take i xs ++ (get_or xs i 0 ∷ s)
    cut =
        split_at (take n xs) i 0 (omega (arith, len))
        ∙ ap (λ (z : List ℕ). z ++ (get_or (take n xs) i 0 ∷ s)) (take-take i n xs (omega arith))
        ∙ ap (λ (z : ℕ). take i xs ++ (z ∷ s)) (get_or-take n xs i 0 b)

    stuck : (j : ℕ) → j < e - suc i → j < length s → m ≤ get_or s j 0 + (length s - j)
    stuck j u g =
        let l : length s ≡ n - suc i = s_len in
        let w : get_or s j 0 ≡ get_or xs (suc i + j) 0 = get_or-drop (suc i) (take n xs) j 0 ∙ get_or-take n xs (suc i + j) 0 (omega arith) in
        let k : m ≤ get_or xs (suc i + j) 0 + (n - (suc i + j)) = f (suc i + j) (omega arith) (omega arith) (omega arith) in
        omega arith

-- a run that is stored one place at a time
pub up_more : (xs : List ℕ) (i : ℕ) → i < length xs → set (up_from 0 i ++ drop i xs) i i ≡ up_from 0 (i + 1) ++ drop (i + 1) xs
up_more xs i h =
    ap (λ (z : List ℕ). set (up_from 0 i ++ z) i i) (drop-cons xs i 0 h)
    ∙ set_at (up_from 0 i) (get_or xs i 0) (drop (suc i) xs) i i (length_up 0 i)
    ∙ sym (append_snoc (up_from 0 i) i (drop (suc i) xs))
    ∙ ap (λ (z : ℕ). (up_from 0 i ++ (z ∷ [])) ++ drop (suc i) xs) (sym (zero-add i))
    ∙ ap (λ (z : List ℕ). z ++ drop (suc i) xs) (sym (up-snoc 0 i))
    ∙ ap (λ (z : ℕ). up_from 0 z ++ drop z xs) (sym (add-one i))
