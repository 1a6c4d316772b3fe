-- Laws of the search for a name that stands twice. Assumes nothing.
use Rattle.std.specs.Prelude.{ℕ, zero, suc, ◌+◌, ◌≤◌, ◌<◌, ◌≡◌, refl, true, List, [], ◌∷◌, ◌++◌, length, get_or, drop, replicate, leb}
use Rattle.std.proofs.Common.{ap, ◌∙◌, ⊎_elim, arith, length-append, length-drop, get_or-drop, le-leb, lt-ltb, le-ltb}
use Rattle.std.proofs.lemmas.List.{length-replicate}
use Rattle.lists.specs.Tests.{below?}
use Rattle.records.specs.Outcome.{Outcome, outcome}
use Rattle.records.specs.SearchLaws.{seek-to}
use Rattle.sorting_spec.specs.Joined.{name_of}
use Rattle.sorting_spec.specs.Repeats.{repeats, first_repeat}
use Rattle.sorting_repeats.specs.Repeating.{Repeated, repeated_at, repeat_outcome}
use Rattle.catalogue_spec.specs.Names.{name_count}
use Rattle.catalogue_repeats.specs.Repeating.{cleared, repeat_place}

-- where the table is large enough
pub repeat_placed : (names w : List ℕ) (x : Repeated) (after : List (List ℕ)) → name_count names ≤ 65536 → name_count names + name_count names ≤ length w
    → outcome x after ≡ repeat_outcome names w → repeat_place (name_count names) x ≡ first_repeat (name_of names) (name_count names)
repeat_placed names w x after h k e = ap (repeat_place n) said ∙ ⊎_elim here never (below? f n)
  where
    n : ℕ
    n = name_count names

    f : ℕ
    f = first_repeat (name_of names) (name_count names)

    said : x ≡ repeated_at n f
    said =
        let p : leb n 4294967295 ≡ true = le-leb n 4294967295 (omega arith) in
        let q : leb (n + n) (length w) ≡ true = le-leb (n + n) (length w) k in
        rw (p, q) at (ap (λ (o : Outcome Repeated). o.answer) e)

    here : f < n → repeat_place n (repeated_at n f) ≡ f
    here g = rw (lt-ltb f n g)

    never : n ≤ f → repeat_place n (repeated_at n f) ≡ f
    never g = let z : n ≡ f = omega (arith, seek-to (repeats (name_of names)) 0 n) in rw (le-ltb f n g) z

-- the table then
pub table-left : (names w : List ℕ) (x : Repeated) (after : List ℕ) → name_count names ≤ 65536 → name_count names + name_count names ≤ length w
    → outcome x (after ∷ []) ≡ repeat_outcome names w → after ≡ cleared (name_count names) w
table-left names w x after h k e =
    let p : leb (name_count names) 4294967295 ≡ true = le-leb (name_count names) 4294967295 (omega arith) in
    let q : leb (name_count names + name_count names) (length w) ≡ true = le-leb (name_count names + name_count names) (length w) k in
    let f : after ∷ [] ≡ cleared (name_count names) w ∷ [] = rw (p, q) at (ap (λ (o : Outcome Repeated). o.lent) e) in
    ap first f
  where
    first : List (List ℕ) → List ℕ
    first [] = []
    first (l ∷ ls) = l

-- as long as it was
pub length-cleared : (n : ℕ) (w : List ℕ) → n + n ≤ length w → length (cleared n w) ≡ length w
length-cleared n w h =
    length-append (replicate (n + n) 0) (drop (n + n) w)
    ∙ omega (arith, length-replicate {A = ℕ} (n + n) 0, length-drop (n + n) w)

-- a table of zeros stays one
zeros_before : (n : ℕ) (ys : List ℕ) → ((i : ℕ) → get_or ys i 0 ≡ 0) → (i : ℕ) → get_or (replicate n 0 ++ ys) i 0 ≡ 0
zeros_before zero ys h i = h i
zeros_before (suc n) ys h zero = refl
zeros_before (suc n) ys h (suc i) = zeros_before n ys h i

pub cleared_zeros : (n : ℕ) (w : List ℕ) → ((i : ℕ) → get_or w i 0 ≡ 0) → (i : ℕ) → get_or (cleared n w) i 0 ≡ 0
cleared_zeros n w h i = zeros_before (n + n) (drop (n + n) w) (λ j. get_or-drop (n + n) w j 0 ∙ h (n + n + j)) i
