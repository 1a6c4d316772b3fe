-- Laws of runs and of lines put together. Assumes nothing.
use Rattle.std.specs.Prelude.{ℕ, zero, suc, ◌+◌, ◌-◌, ◌%◌, ◌≤◌, ◌<◌, ◌≡◌, refl, Bool, true, false, cond, not, ◌&&◌, ◌||◌, List, [], ◌∷◌, length, drop, get_or, set, ltb, eqb}
use Rattle.std.proofs.Common.{sym, ap, ◌∙◌, inl, ⊎_elim, arith, add-zero, add-one, drop_of_length-le, drop-cons, get_or-drop, lt-ltb, le-ltb, ne_eqb, eq-eqb}
use Rattle.std.proofs.Math.Bool.{or_assoc, or-false}
use Rattle.std.proofs.lemmas.List.Edits.{sets}
use Rattle.lists.specs.Tests.{below?}
use Rattle.letters.specs.Letters.{capital, capitals, is_letter}
use Rattle.letters.specs.CapitalLaws.{letter_is, small-reads, other_reads}
use Rattle.fasta_lines.specs.declared.runs.Run.{Run}
use Rattle.fasta_lines.specs.declared.runs.Run.TheVariants.{Letters}
use Rattle.fasta_lines.specs.Lines.{line_end, goes_on, run_of, together, entry_length}

head-drop : (i : ℕ) (s : List ℕ) → get_or (drop i s) 0 0 ≡ get_or s i 0
head-drop i s = get_or-drop i s 0 0 ∙ ap (λ (z : ℕ). get_or s z 0) (add-zero i)

front : (s : List ℕ) (i : ℕ) → i < length s → drop i s ≡ get_or s i 0 ∷ drop (i + 1) s
front s i h = rw (add-one i) (drop-cons s i 0 h)

-- ---- a run goes on, stops, ends

module _ (k : Run) (s : List ℕ) (i : ℕ) where
  pub run_on : i < length s → goes_on k (get_or s i 0) (get_or s (i + 1) 0) ≡ true → (i + 1) + run_of k (drop (i + 1) s) ≡ i + run_of k (drop i s)
  run_on h e =
      let f : goes_on k (get_or s i 0) (get_or (drop (i + 1) s) 0 0) ≡ true = rw (head-drop (i + 1) s) e in
      rw (front s i h, f) (omega arith)

  pub run_stop : i < length s → goes_on k (get_or s i 0) (get_or s (i + 1) 0) ≡ false → i + run_of k (drop i s) ≡ i
  run_stop h e =
      let f : goes_on k (get_or s i 0) (get_or (drop (i + 1) s) 0 0) ≡ false = rw (head-drop (i + 1) s) e in
      rw (front s i h, f) (add-zero i)

  pub run_end : length s ≤ i → i + run_of k (drop i s) ≡ i
  run_end h = rw (drop_of_length-le s h) (add-zero i)

pub run-bound : (k : Run) (s : List ℕ) → run_of k s ≤ length s
run-bound k [] = omega arith
run-bound k (b ∷ s) = go (goes_on k b (get_or s 0 0)) (run-bound k s)
  where
    go : (t : Bool) → run_of k s ≤ length s → cond t (suc (run_of k s)) 0 ≤ suc (length s)
    go true h = omega arith
    go false h = omega arith

-- ---- of lines put together a byte is passed over, one is taken, none is left

module _ (s : List ℕ) (i : ℕ) where
  pub together_skip : i < length s → line_end (get_or s i 0) (get_or s (i + 1) 0) ≡ true → together (drop i s) ≡ together (drop (i + 1) s)
  together_skip h e =
      let f : line_end (get_or s i 0) (get_or (drop (i + 1) s) 0 0) ≡ true = rw (head-drop (i + 1) s) e in
      rw (front s i h, f)

  pub together-take : i < length s → line_end (get_or s i 0) (get_or s (i + 1) 0) ≡ false → together (drop i s) ≡ get_or s i 0 ∷ together (drop (i + 1) s)
  together-take h e =
      let f : line_end (get_or s i 0) (get_or (drop (i + 1) s) 0 0) ≡ false = rw (head-drop (i + 1) s) e in
      rw (front s i h, f)

  pub together_end : length s ≤ i → together (drop i s) ≡ []
  together_end h = rw (drop_of_length-le s h)

pub length-together : (s : List ℕ) → length (together s) ≤ length s
length-together [] = omega arith
length-together (b ∷ s) = go (line_end b (get_or s 0 0)) (length-together s)
  where
    go : (t : Bool) → length (together s) ≤ length s → length (cond t (together s) (b ∷ together s)) ≤ suc (length s)
    go true h = omega arith
    go false h = omega arith

-- ---- bytes of which all are letters or belong to line ends

run_inside : (k : Run) (s : List ℕ) (i : ℕ) → run_of k s ≡ length s → i < length s → goes_on k (get_or s i 0) (get_or s (suc i) 0) ≡ true
run_inside k [] i e h = absurd (omega arith)
run_inside k (b ∷ s) i e h = go (goes_on k b (get_or s 0 0)) refl e i h (λ f j l. run_inside k s j f l)
  where
    go : (t : Bool) → goes_on k b (get_or s 0 0) ≡ t → cond t (suc (run_of k s)) 0 ≡ suc (length s) → (i : ℕ) → i < suc (length s)
        → (run_of k s ≡ length s → (j : ℕ) → j < length s → goes_on k (get_or s j 0) (get_or s (suc j) 0) ≡ true) → goes_on k (get_or (b ∷ s) i 0) (get_or (b ∷ s) (suc i) 0) ≡ true
    go false f g i l rest = absurd (omega arith)
    go true f g zero l rest = f
    go true f g (suc i) l rest = rest (omega arith) i (omega arith)

-- what continues the whole list continues it at each place
pub run_at : (k : Run) (s : List ℕ) (i : ℕ) → run_of k s ≡ length s → i < length s → goes_on k (get_or s i 0) (get_or s (i + 1) 0) ≡ true
run_at k s i e h = rw (add-one i) (run_inside k s i e h)

-- a byte that is neither
abbrev pub bad_byte : ℕ → ℕ → Bool
bad_byte b next = not (goes_on Letters b next)

abbrev pub some_bad : List ℕ → Bool
some_bad [] = false
some_bad (b ∷ s) = bad_byte b (get_or s 0 0) || some_bad s

pub some_bad_lem : (s : List ℕ) → some_bad s ≡ ltb (run_of Letters s) (length s)
some_bad_lem [] = refl
some_bad_lem (b ∷ s) = go (goes_on Letters b (get_or s 0 0)) (some_bad_lem s)
  where
    go : (t : Bool) → some_bad s ≡ ltb (run_of Letters s) (length s) → (not t || some_bad s) ≡ ltb (cond t (suc (run_of Letters s)) 0) (suc (length s))
    go true e =
        e
        ∙ ⊎_elim (λ (h : run_of Letters s < length s). lt-ltb _ _ h ∙ sym (lt-ltb (suc (run_of Letters s)) (suc (length s)) (omega arith)))
        (λ (h : length s ≤ run_of Letters s). le-ltb _ _ h ∙ sym (le-ltb (suc (run_of Letters s)) (suc (length s)) (omega arith))) (below? (run_of Letters s) (length s))
    go false e = sym (lt-ltb 0 (suc (length s)) (omega arith))

-- one byte more was looked at; the last one was
module _ (s : List ℕ) (i : ℕ) (found : Bool) where
  pub bad_on : i + 1 < length s → (found || some_bad (drop i s)) ≡ some_bad s → ((found || bad_byte (get_or s i 0) (get_or s (i + 1) 0)) || some_bad (drop (i + 1) s)) ≡ some_bad s
  bad_on h e =
      let f : bad_byte (get_or s i 0) (get_or (drop (i + 1) s) 0 0) ≡ bad_byte (get_or s i 0) (get_or s (i + 1) 0) = ap (bad_byte (get_or s i 0)) (head-drop (i + 1) s) in
      or_assoc found (bad_byte (get_or s i 0) (get_or s (i + 1) 0)) (some_bad (drop (i + 1) s)) ∙ ap (λ (t : Bool). found || (t || some_bad (drop (i + 1) s))) (sym f) ∙ ap (λ (l : List ℕ). found || some_bad l) (sym (front s i (omega arith))) ∙ e

  pub bad_end : i + 1 ≡ length s → (found || some_bad (drop i s)) ≡ some_bad s → (found || bad_byte (get_or s i 0) 0) ≡ ltb (run_of Letters s) (length s)
  bad_end h e =
      let n : drop (i + 1) s ≡ [] = drop_of_length-le s {i = i + 1} (omega arith) in
      let f : some_bad (drop i s) ≡ bad_byte (get_or s i 0) 0 = rw (front s i (omega arith), n) (or-false (bad_byte (get_or s i 0) 0)) in
      ap (λ (t : Bool). found || t) (sym f) ∙ e ∙ some_bad_lem s

-- a byte above 64 is a letter, and no other is
module _ (s : List ℕ) (i : ℕ) (e : run_of Letters s ≡ length s) (h : i < length s) where
  pub high_taken : 64 < get_or s i 0 → line_end (get_or s i 0) (get_or s (i + 1) 0) ≡ false
  high_taken l = rw (ne_eqb (get_or s i 0) 10 (λ (q : get_or s i 0 ≡ 10). omega arith), ne_eqb (get_or s i 0) 13 (λ (q : get_or s i 0 ≡ 13). omega arith))

  pub low_skipped : get_or s i 0 ≤ 64 → line_end (get_or s i 0) (get_or s (i + 1) 0) ≡ true
  low_skipped l = go (line_end (get_or s i 0) (get_or s (i + 1) 0)) (is_letter (get_or s i 0)) refl (run_at Letters s i e h)
    where
      go : (t u : Bool) → is_letter (get_or s i 0) ≡ u → (t || u) ≡ true → t ≡ true
      go true u f g = refl
      go false true f g = absurd (⊎_elim (λ r. omega (arith, r.0)) (λ r. omega (arith, r.0)) (letter_is (get_or s i 0) f))
      go false false f g = g

  pub high_raised : 64 < get_or s i 0 → 65 + (get_or s i 0 - 65) % 32 ≡ capital (get_or s i 0)
  high_raised l =
      let f : (line_end (get_or s i 0) (get_or s (i + 1) 0) || is_letter (get_or s i 0)) ≡ true = run_at Letters s i e h in
      let g : is_letter (get_or s i 0) ≡ true = rw (high_taken l) at f in
      ⊎_elim (λ r. sym (other_reads (get_or s i 0) (inl (omega (arith, r.1))) ∙ omega (arith, r.0, r.1)))
      (λ r. sym (small-reads (get_or s i 0) r.0 r.1 ∙ omega (arith, r.0, r.1))) (letter_is (get_or s i 0) g)

-- one more of them is stored
pub letter_stored : (out : List ℕ) (k : ℕ) (s : List ℕ) (i : ℕ) → i < length s → line_end (get_or s i 0) (get_or s (i + 1) 0) ≡ false
    → sets (set out k (capital (get_or s i 0))) (k + 1) (capitals (together (drop (i + 1) s))) ≡ sets out k (capitals (together (drop i s)))
letter_stored out k s i h e = rw (together-take s i h e, add-one k)

-- ---- where an entry ends: a byte opens no line that starts with `>`, or it does, or none is left

module _ (s : List ℕ) (i : ℕ) where
  behind : i < length s → entry_length (drop i s) ≡ suc (cond (eqb (get_or s i 0) 10 && eqb (get_or s (i + 1) 0) 62) 0 (entry_length (drop (i + 1) s)))
  behind h = ap entry_length (front s i h) ∙ ap (λ (b : ℕ). suc (cond (eqb (get_or s i 0) 10 && eqb b 62) 0 (entry_length (drop (i + 1) s)))) (head-drop (i + 1) s)

-- i is the place behind the byte last looked at
module _ (s : List ℕ) (i : ℕ) (some : 1 ≤ i) where
  back : i - 1 + 1 ≡ i
  back = omega arith

  step : i < length s → entry_length (drop (i - 1) s) ≡ suc (cond (eqb (get_or s (i - 1) 0) 10 && eqb (get_or s i 0) 62) 0 (entry_length (drop i s)))
  step h = rw back at (behind s (i - 1) (omega arith))

  pub entry-on : i < length s → (eqb (get_or s (i - 1) 0) 10 && eqb (get_or s i 0) 62) ≡ false → i + entry_length (drop i s) ≡ i - 1 + entry_length (drop (i - 1) s)
  entry-on l e = let f : entry_length (drop (i - 1) s) ≡ suc (entry_length (drop i s)) = rw e at (step l) in omega (arith, f)

  pub entry_found : i < length s → get_or s (i - 1) 0 ≡ 10 → get_or s i 0 ≡ 62 → i - 1 + entry_length (drop (i - 1) s) ≡ i
  entry_found l e f = let g : entry_length (drop (i - 1) s) ≡ 1 = rw (eq-eqb (get_or s (i - 1) 0) 10 e, eq-eqb (get_or s i 0) 62 f) at (step l) in omega (arith, g)

  pub entry_end : length s ≤ i → i - 1 ≤ length s → i - 1 + entry_length (drop (i - 1) s) ≡ length s
  entry_end l k = ⊎_elim last none (below? (i - 1) (length s))
    where
      one : (t : Bool) → suc (cond t 0 0) ≡ 1
      one true = refl
      one false = refl

      last : i - 1 < length s → i - 1 + entry_length (drop (i - 1) s) ≡ length s
      last h =
          let n : drop (i - 1 + 1) s ≡ [] = drop_of_length-le s {i = i - 1 + 1} (omega arith) in
          let f : entry_length (drop (i - 1) s) ≡ 1 = (rw n at (behind s (i - 1) h)) ∙ one (eqb (get_or s (i - 1) 0) 10 && eqb (get_or s (i - 1 + 1) 0) 62) in
          omega (arith, f)

      none : length s ≤ i - 1 → i - 1 + entry_length (drop (i - 1) s) ≡ length s
      none h = rw (drop_of_length-le s {i = i - 1} h) (omega arith)
