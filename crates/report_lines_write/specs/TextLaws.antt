-- The text of a stretch whose last entry is marked. Assumes nothing.
use Prim.Native.Nat.{ℕ, zero, suc, ◌+◌, ◌-◌, ◌%◌, ◌≤◌, ◌<◌}
use Rattle.std.specs.Prelude.{◌≡◌, refl, take, drop}
use Rattle.std.proofs.Math.Path.{sym, ap}
use Rattle.std.proofs.Common.{◌∙◌, arith, add-one, eq-eqb, ne_eqb, take-append-drop, drop_at, take_all}
use mathlib.Core.List.{List, [], ◌∷◌, ◌++◌, flatten, map, append_assoc}
use Rattle.std.proofs.Math.ListN.{length, length-append}
use Rattle.std.proofs.lemmas.List.{take-append-le}
use Rattle.lists.specs.Lists.{up_from}
use Rattle.sorting_spec.specs.Joined.{join}
use Rattle.sorting_texts.specs.Text.{entry_text, up_to_last, joined_text}
use Rattle.sorting_texts.specs.EntryLaws.{entry-suc}
use Rattle.report_lines_spec.specs.Stretches.{lasted}
use Rattle.report_lines_write.specs.ListLaws.{flat_up}

-- entries none of which says that it is a last one
abbrev pub Evens : List ℕ → Type 0
Evens [] = Unit {0}
Evens (x ∷ xs) = (x % 2 ≡ 0) × Evens xs

-- what stands before the last one is read up to it
pub upto_lasted : (x : ℕ) (xs more : List ℕ) → Evens (x ∷ xs) → up_to_last (lasted (x ∷ xs) ++ more) ≡ lasted (x ∷ xs)
upto_lasted x [] more h = let e : suc x % 2 ≡ 1 = omega (arith, h.0) in rw (eq-eqb (suc x % 2) 1 e)
upto_lasted x (y ∷ ys) more h =
    rw (ne_eqb (x % 2) 1 (λ (z : x % 2 ≡ 1). omega (arith, h.0))) (ap (λ (l : List ℕ). x ∷ l) (upto_lasted y ys more h.1))

-- that an entry is a last one does not change its text
pub texts-lasted : (letters keys xs : List ℕ) → Evens xs → map (entry_text letters keys) (lasted xs) ≡ map (entry_text letters keys) xs
texts-lasted letters keys [] h = refl
texts-lasted letters keys (x ∷ []) h = ap (λ (t : List ℕ). t ∷ []) (entry-suc letters keys x h.0)
texts-lasted letters keys (x ∷ y ∷ ys) h = ap (λ (l : List (List ℕ)). entry_text letters keys x ∷ l) (texts-lasted letters keys (y ∷ ys) h.1)

-- the text of the entries that stand at a place among the keys
pub text_there : (letters keys : List ℕ) (x : ℕ) (s more : List ℕ) → 0 < length s → Evens s → drop (16 + x) keys ≡ lasted s ++ more
    → joined_text letters keys x ≡ join 47 (map (entry_text letters keys) s)
text_there letters keys x [] more h e d = absurd (omega arith)
text_there letters keys x (y ∷ ys) more h e d =
    ap (λ (l : List ℕ). join 47 (map (entry_text letters keys) (up_to_last l))) d
    ∙ ap (λ (l : List ℕ). join 47 (map (entry_text letters keys) l)) (upto_lasted y ys more e)
    ∙ ap (join 47) (texts-lasted letters keys (y ∷ ys) e)

-- lists one behind the other, and where they end
module _ (f : ℕ → List ℕ) (bound : ℕ → ℕ) (first : bound 0 ≡ 0) where
  abbrev flat : ℕ → List ℕ
  flat k = flatten (map f (up_from 0 k))

  module _ (groups : ℕ) (each : (k : ℕ) → k < groups → bound k + length (f k) ≡ bound (k + 1)) where
    pub flat-length : (k : ℕ) → k ≤ groups → length (flat k) ≡ bound k
    unfolding flatten
    flat-length zero h = sym first
    flat-length (suc k) h =
        ap length (flat_up f k) ∙ length-append (flat k) (f k) ∙ omega (arith, flat-length k (omega arith), each k (omega arith), ap bound (add-one k))

    -- a front of them
    pub flat_front : (d g : ℕ) → g + d ≤ groups → take (bound g) (flat (g + d)) ≡ flat g
    flat_front zero g h =
        let e : g + 0 ≡ g = omega arith in
        ap (λ (k : ℕ). take (bound g) (flat k)) e ∙ take_all (bound g) (flat g) (omega (arith, flat-length g (omega arith)))
    flat_front (suc d) g h =
        let e : g + suc d ≡ suc (g + d) = omega arith in
        ap (λ (k : ℕ). take (bound g) (flat k)) e
        ∙ ap (take (bound g)) (flat_up f (g + d))
        ∙ take-append-le (bound g) (flat (g + d)) (f (g + d)) (omega (arith, flat-length (g + d) (omega arith), rises d g (omega arith)))
        ∙ flat_front d g (omega arith)
      where
        rises : (d g : ℕ) → g + d ≤ groups → bound g ≤ bound (g + d)
        rises zero g h = let e : g + 0 ≡ g = omega arith in omega (arith, ap bound e)
        rises (suc d) g h =
            let e : g + suc d ≡ g + d + 1 = omega arith in
            omega (arith, rises d g (omega arith), each (g + d) (omega arith), ap bound e)

    -- THE LAW: list g stands where it begins
    pub flat-at : (g : ℕ) (more : List ℕ) → g < groups → drop (bound g) (flat groups ++ more) ≡ f g ++ (drop (bound (g + 1)) (flat groups) ++ more)
    flat-at g more h =
        let d : ℕ = groups - (g + 1) in
        let e : g + 1 + d ≡ groups = omega arith in
        let rest : List ℕ = drop (bound (g + 1)) (flat groups) in
        let p : take (bound (g + 1)) (flat groups) ≡ flat g ++ f g =
        ap (λ (k : ℕ). take (bound (g + 1)) (flat k)) (sym e) ∙ flat_front d (g + 1) (omega arith) ∙ ap flat (add-one g) ∙ flat_up f g in
        let whole : flat groups ≡ flat g ++ (f g ++ rest) =
        sym (take-append-drop (bound (g + 1)) (flat groups)) ∙ ap (λ (l : List ℕ). l ++ rest) p ∙ append_assoc (flat g) (f g) rest in
        ap (λ (l : List ℕ). drop (bound g) (l ++ more)) whole
        ∙ ap (drop (bound g)) (append_assoc (flat g) (f g ++ rest) more)
        ∙ drop_at (flat g) ((f g ++ rest) ++ more) (bound g) (flat-length g (omega arith))
        ∙ append_assoc (f g) rest more
