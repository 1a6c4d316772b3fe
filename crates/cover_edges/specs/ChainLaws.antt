-- Laws of linked lists of records. Assumes nothing.
use Rattle.std.specs.Prelude.{ℕ, zero, suc, ◌+◌, ◌-◌, ◌*◌, ◌≤◌, ◌<◌, ◌≡◌, refl, Bool, true, false, cond, List, length, get_or, set, eqb}
use Rattle.std.proofs.Common.{arith, sym, ap, ◌∙◌, ⊎_elim, length-set, get_or-set_same, get_or-set_other, add-one, eqb-true, eq-eqb, ne_eqb}
use Rattle.lists.specs.Tests.{same?}
use Rattle.lists.specs.FrameLaws.{Out}
use Rattle.records.specs.Le.{number_at}
use Rattle.cover_edges.specs.Chains.{last_with, Chains}

pub last-le : (bs : List ℕ) (f x i : ℕ) → last_with bs f x i ≤ i
unfolding last_with
last-le bs f x zero = omega arith
last-le bs f x (suc i) = go (eqb (number_at 4 bs (8 * i + f)) x) (last-le bs f x i)
  where
    go : (b : Bool) → last_with bs f x i ≤ i → cond b (suc i) (last_with bs f x i) ≤ suc i
    go true h = omega arith
    go false h = omega arith

pub last_hit : (bs : List ℕ) (f x i : ℕ) → 0 < last_with bs f x i → number_at 4 bs (8 * (last_with bs f x i - 1) + f) ≡ x
unfolding last_with
last_hit bs f x zero h = absurd (omega arith)
last_hit bs f x (suc i) h = go (eqb (number_at 4 bs (8 * i + f)) x) refl (last_hit bs f x i) h
  where
    go : (b : Bool) → eqb (number_at 4 bs (8 * i + f)) x ≡ b → (0 < last_with bs f x i → number_at 4 bs (8 * (last_with bs f x i - 1) + f) ≡ x) → 0 < cond b (suc i) (last_with bs f x i) → number_at 4 bs (8 * (cond b (suc i) (last_with bs f x i) - 1) + f) ≡ x
    go true e ih h = let z : suc i - 1 ≡ i = omega arith in rw z (eqb-true _ x e)
    go false e ih h = ih h

-- ---- linking record i
last_yes : (bs : List ℕ) (f x i : ℕ) → number_at 4 bs (8 * i + f) ≡ x → last_with bs f x (i + 1) ≡ i + 1
unfolding last_with
last_yes bs f x i h = rw (add-one, eq-eqb (number_at 4 bs (8 * i + f)) x h)

last_no : (bs : List ℕ) (f x i : ℕ) → (number_at 4 bs (8 * i + f) ≡ x → ⊥) → last_with bs f x (i + 1) ≡ last_with bs f x i
unfolding last_with
last_no bs f x i h = rw (add-one, ne_eqb (number_at 4 bs (8 * i + f)) x h)

pub link_start : (w bs : List ℕ) (f size h nx : ℕ) → ((x : ℕ) → x < size → get_or w (h + x) 0 ≡ 0) → Chains w bs f 0 size h nx
unfolding last_with
link_start w bs f size h nx z = record { heads = z; nexts = λ i l. absurd (omega arith) }

pub link_turn : (w w' bs : List ℕ) (f i n size h nx : ℕ) → Chains w bs f i size h nx → i < n → h + size ≤ nx → nx + n ≤ length w → number_at 4 bs (8 * i + f) < size
    → w' ≡ set (set w (nx + i) (get_or w (h + number_at 4 bs (8 * i + f)) 0)) (h + number_at 4 bs (8 * i + f)) (i + 1) → Chains w' bs f (i + 1) size h nx
link_turn w w' bs f i n size h nx c l a b inside e =
    let x : ℕ = number_at 4 bs (8 * i + f) in
    let w1 : List ℕ = set w (nx + i) (get_or w (h + x) 0) in
    let other : (j : ℕ) → (j ≡ h + x → ⊥) → (j ≡ nx + i → ⊥) → get_or w' j 0 ≡ get_or w j 0 = λ j p q. ap (λ (v : List ℕ). get_or v j 0) e ∙ get_or-set_other w1 (h + x) j (i + 1) 0 p ∙ get_or-set_other w (nx + i) j (get_or w (h + x) 0) 0 q in
    record {
      heads = λ y m. ⊎_elim (λ (q : y ≡ x). rw q (ap (λ (v : List ℕ). get_or v (h + x) 0) e ∙ get_or-set_same w1 (h + x) (i + 1) 0 (rw length-set (omega arith)) ∙ sym (last_yes bs f x i refl)))
          (λ (q : y ≡ x → ⊥). other (h + y) (λ z. q (omega arith)) (λ z. omega arith) ∙ c.heads y m ∙ sym (last_no bs f y i (λ z. q (sym z)))) (same? y x);
      nexts = λ j m. ⊎_elim (λ (q : j ≡ i). rw q (ap (λ (v : List ℕ). get_or v (nx + i) 0) e ∙ get_or-set_other w1 (h + x) (nx + i) (i + 1) 0 (λ z. omega arith) ∙ get_or-set_same w (nx + i) (get_or w (h + x) 0) 0 (omega arith) ∙ c.heads x inside))
          (λ (q : j ≡ i → ⊥). other (nx + j) (λ z. omega arith) (λ z. q (omega arith)) ∙ c.nexts j (omega (arith, q))) (same? j i);
    }

pub link_rest : (w₀ w w' bs : List ℕ) (f i n size h nx : ℕ) → i < n → number_at 4 bs (8 * i + f) < size
    → w' ≡ set (set w (nx + i) (get_or w (h + number_at 4 bs (8 * i + f)) 0)) (h + number_at 4 bs (8 * i + f)) (i + 1)
    → ((j : ℕ) → Out j h (h + size) → Out j nx (nx + n) → get_or w j 0 ≡ get_or w₀ j 0) → (j : ℕ) → Out j h (h + size) → Out j nx (nx + n) → get_or w' j 0 ≡ get_or w₀ j 0
link_rest w₀ w w' bs f i n size h nx l inside e r j a b =
    ap (λ (v : List ℕ). get_or v j 0) e
    ∙ get_or-set_other (set w (nx + i) (get_or w (h + number_at 4 bs (8 * i + f)) 0)) (h + number_at 4 bs (8 * i + f)) j (i + 1) 0 (λ z. ⊎_elim (λ (y : j < h). omega arith) (λ (y : h + size ≤ j). omega arith) a)
    ∙ get_or-set_other w (nx + i) j (get_or w (h + number_at 4 bs (8 * i + f)) 0) 0 (λ z. ⊎_elim (λ (y : j < nx). omega arith) (λ (y : nx + n ≤ j). omega arith) b)
    ∙ r j a b

-- the same chains in a list that agrees with w in their places
pub chains_same : (w w' bs : List ℕ) (f n size h nx : ℕ) → ((x : ℕ) → x < size → get_or w' (h + x) 0 ≡ get_or w (h + x) 0) → ((i : ℕ) → i < n → get_or w' (nx + i) 0 ≡ get_or w (nx + i) 0) → Chains w bs f n size h nx → Chains w' bs f n size h nx
chains_same w w' bs f n size h nx p q c = record { heads = λ x l. p x l ∙ c.heads x l; nexts = λ i l. q i l ∙ c.nexts i l }
