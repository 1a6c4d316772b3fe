-- Things sorted by the texts that a lent slice has of them, and their runs. Assumes nothing.
use Rattle.std.specs.Prelude.{◌≡◌, Bool, true, List, [], ◌∷◌, ℕ, zero, suc, ◌+◌, ◌-◌, ◌≤◌, ◌<◌, length, get_or, take, drop, Ok}
use Rattle.std.proofs.Common.{sym, ap, subst, ◌∙◌, inl, inr, arith, le-leb, get_or-drop, drop-drop}
use Rattle.std.proofs.Math.Seq.{slice, drop-nil, take-nil}
use Rattle.lists.specs.FrameLaws.{Framed}
use Rattle.sorting_runs.specs.Numbering.{Numbered, numberable, numbered, numbers_outcome}
use Rattle.records.specs.Outcome.{Outcome, outcome}
use Rattle.sorting_spec.specs.Sort.{sorted}
use Rattle.sorting_texts.specs.declared.text.By.TheVariants.{Numbers}
use Rattle.sorting_texts.specs.Text.{le_by, text_by}
use Rattle.sorting_spec.specs.PartLaws.{drop-same, slice-same, at_take, at_drop}
use Rattle.sorting_merge.specs.RangeLaws.{SortedRange}
use Rattle.sorting_spec.specs.Runs.{runs_of, run_numbers}
use Rattle.sorting_slices.specs.SortingLaws.{order-fitting}
use Rattle.sorting_runs.specs.NumberLaws.{numbered-take, numbered-slice, numbered-drop}
use Rattle.protein_groups_spec.specs.LeaderLaws.{le_texts}
use Rattle.protein_groups_numbering.specs.SpreadLaws.{text_at}

take-drop : (e j : ℕ) (l : List ℕ) → take j (drop e l) ≡ drop e (take (e + j) l)
take-drop zero j l = let u : 0 + j ≡ j = omega arith in rw u
take-drop (suc e) zero [] = sym (ap (drop (suc e)) (take-nil (suc e + 0)) ∙ drop-nil (suc e))
take-drop (suc e) (suc j) [] = sym (ap (drop (suc e)) (take-nil (suc e + suc j)) ∙ drop-nil (suc e))
take-drop (suc e) j (x ∷ xs) = let u : suc e + j ≡ suc (e + j) = omega arith in rw u (take-drop e j xs)

pub slice-drop : (e i j : ℕ) (l : List ℕ) → slice i j (drop e l) ≡ slice (e + i) (e + j) l
slice-drop e i j l = ap (drop i) (take-drop e j l) ∙ drop-drop i e (take (e + j) l)

-- the sorting crate's texts are those of the slice
pub text_is : (base e : ℕ) (letters w : List ℕ) (x : ℕ) → text_by (Numbers base) letters (drop e w) x ≡ text_at w e (e + base) x
text_is base e letters w x =
    slice-drop e (base + get_or (drop e w) x 0) (base + get_or (drop e w) (x + 1) 0) w
    ∙ rw (get_or-drop e w x 0, get_or-drop e w (x + 1) 0)
    (let u : e + (base + get_or w (e + x) 0) ≡ e + base + get_or w (e + x) 0 = omega arith in
    let v : e + (x + 1) ≡ e + x + 1 = omega arith in
    let y : e + (base + get_or w (e + x + 1) 0) ≡ e + base + get_or w (e + x + 1) 0 = omega arith in
    rw (v, u, y))

pub order_is : (base e : ℕ) (letters w : List ℕ) → le_by (Numbers base) letters (drop e w) ≡ le_texts (text_at w e (e + base))
order_is base e letters w = λ i a b. each a b i
  where
    each : (a b : ℕ) → le_by (Numbers base) letters (drop e w) a b ≡ le_texts (text_at w e (e + base)) a b
    each a b = rw (text_is base e letters w a, text_is base e letters w b)

-- THE RESULT: the t things from o on in order, their runs' numbers from s on, and how many runs there are
pub record RunsOrdered (w₀ w : List ℕ) (o t s e f r : ℕ) : Type 0 where
  pub order : slice o (o + t) w ≡ sorted (le_texts (text_at w₀ e f)) (slice o (o + t) w₀)
  pub ranks : slice s (s + t) w ≡ run_numbers (le_texts (text_at w₀ e f)) (sorted (le_texts (text_at w₀ e f)) (slice o (o + t) w₀))
  pub count : r ≡ length (runs_of (le_texts (text_at w₀ e f)) (sorted (le_texts (text_at w₀ e f)) (slice o (o + t) w₀)))
  pub rest : Framed o e w₀ w

module _ (w₀ w₁ w₂ letters : List ℕ) (o t s e base : ℕ) (a : Numbered) (l₁ : length w₁ ≡ length w₀) (l₂ : length w₂ ≡ length w₁) (o₁ : o + t ≤ s) (o₂ : s + t ≤ e) (o₃ : e ≤ length w₀)
    (o₄ : t < 4294967296) (r : SortedRange (le_by (Numbers base) letters) w₀ w₁ o (o + t) s e) (n : outcome a (w₂ ∷ []) ≡ numbers_outcome (Numbers base) letters o (o + t) s e w₁) where
  abbrev by : ℕ → ℕ → Bool
  by = le_by (Numbers base) letters (drop e w₁)

  long : o + t - o ≡ t
  long = omega arith

  fits : numberable o (o + t) s e (length w₁) ≡ true
  fits = rw (order-fitting o (o + t) s e (length w₁) (omega arith) o₁ (omega arith) (omega arith), le-leb (o + t - o) 4294967295 (omega arith))

  told : outcome a (w₂ ∷ []) ≡ outcome (Ok (length (runs_of by (slice o (o + t) w₁)))) (numbered (Numbers base) letters o (o + t) s e w₁ ∷ [])
  told = rw fits at n

  -- the answer is a count
  pub counts : a ≡ Ok (length (runs_of by (slice o (o + t) w₁)))
  counts = ap (λ (x : Outcome Numbered). x.answer) told

  exit : w₂ ≡ numbered (Numbers base) letters o (o + t) s e w₁
  exit = let h : w₂ ∷ [] ≡ numbered (Numbers base) letters o (o + t) s e w₁ ∷ [] = ap (λ (x : Outcome Numbered). x.lent) told in cc

  front : take s w₂ ≡ take s w₁
  front = rw exit (numbered-take (Numbers base) letters o (o + t) s e w₁ (omega arith) o₁ (omega arith) (omega arith))

  numbers : slice s (s + t) w₂ ≡ run_numbers by (slice o (o + t) w₁)
  numbers =
      subst (λ (d : ℕ). slice s (s + d) w₂ ≡ run_numbers by (slice o (o + t) w₁)) long
      (ap (slice s (s + (o + t - o))) exit ∙ numbered-slice (Numbers base) letters o (o + t) s e w₁ (omega arith) o₁ (omega arith) (omega arith))

  behind : drop (s + t) w₂ ≡ drop (s + t) w₁
  behind =
      subst (λ (d : ℕ). drop (s + d) w₂ ≡ drop (s + d) w₁) long
      (ap (drop (s + (o + t - o))) exit ∙ numbered-drop (Numbers base) letters o (o + t) s e w₁ (omega arith) o₁ (omega arith) (omega arith))

  keys : drop e w₁ ≡ drop e w₀
  keys = drop-same e w₁ w₀ l₁ (λ i h. r.rest i (inr (omega arith)))

  test : le_by (Numbers base) letters (drop e w₁) ≡ le_texts (text_at w₀ e (e + base))
  test = ap (le_by (Numbers base) letters) keys ∙ order_is base e letters w₀

  sorts : slice o (o + t) w₁ ≡ sorted (le_texts (text_at w₀ e (e + base))) (slice o (o + t) w₀)
  sorts = r.sorts ∙ ap (λ (f : ℕ → ℕ → Bool). sorted f (slice o (o + t) w₀)) (order_is base e letters w₀)

  rest-go : Framed o e w₀ w₂
  rest-go j (inl h) = at_take s w₂ w₁ front j (omega arith) ∙ r.rest j (inl h)
  rest-go j (inr h) = at_drop (s + t) w₂ w₁ behind j (omega arith) ∙ r.rest j (inr (omega arith))

  pub runs_ordered : (k : ℕ) → a ≡ Ok k → RunsOrdered w₀ w₂ o t s e (e + base) k
  runs_ordered k q = record {
    order = slice-same o (o + t) w₂ w₁ (omega arith) (omega arith) (λ i f g. at_take s w₂ w₁ front i (omega arith)) ∙ sorts;
    ranks = numbers ∙ ap (λ (f : ℕ → ℕ → Bool). run_numbers f (slice o (o + t) w₁)) test ∙ ap (run_numbers (le_texts (text_at w₀ e (e + base)))) sorts;
    count =
        (let u : Ok k ≡ Ok (length (runs_of by (slice o (o + t) w₁))) = sym q ∙ counts in let v : k ≡ length (runs_of by (slice o (o + t) w₁)) = cc in v)
        ∙ ap (λ (f : ℕ → ℕ → Bool). length (runs_of f (slice o (o + t) w₁))) test
        ∙ ap (λ (l : List ℕ). length (runs_of (le_texts (text_at w₀ e (e + base))) l)) sorts;
    rest = rest-go;
  }
