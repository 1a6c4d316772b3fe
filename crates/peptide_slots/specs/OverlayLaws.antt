-- A form mapped with its places, and the fixed rules by their table. Assumes nothing.
use Rattle.std.specs.Prelude.{ℕ, zero, suc, ◌+◌, ◌<◌, ◌≡◌, refl, Bool, true, false, cond, List, [], ◌∷◌, eqb, length, get_or, set, replicate}
use Rattle.std.proofs.Common.{sym, ap, ◌∙◌, subst, arith, le_of_suc-le-suc, not-suc-le-zero, add-suc, suc-add, add-zero, zero-add, length-set, ext_get_or, get_or-set_same, get_or-set_other}
use Rattle.std.proofs.Math.Decide.{dec_lt, ℕ_discrete}
use Rattle.std.proofs.Math.Dec.{eqb-suc-zero}
use Rattle.std.proofs.lemmas.List.{length-replicate, get_or-replicate}
use Rattle.lists.specs.FrameLaws.{Framed, framed_none, framed_then, framed_within, framed_set}
use Rattle.peptide_slots.specs.Hits.{fill, fill_at}
use Rattle.peptide_slots.specs.Sites.{id_at, slot_of, rule_of}
use Rattle.peptide_slots.specs.Filling.{fill_site, apply}
use Rattle.peptide_slots.specs.Overlays.{map_at, overlay}

pub length-map_at : (f : ℕ → ℕ → ℕ) (k : ℕ) (xs : List ℕ) → length (map_at f k xs) ≡ length xs
unfolding map_at
length-map_at f k [] = refl
length-map_at f k (x ∷ xs) = ap suc (length-map_at f (suc k) xs)

pub get_or-map_at : (f : ℕ → ℕ → ℕ) (k : ℕ) (xs : List ℕ) (j : ℕ) → j < length xs → get_or (map_at f k xs) j 0 ≡ f (k + j) (get_or xs j 0)
unfolding map_at
get_or-map_at f k [] j h = absurd (not-suc-le-zero h)
get_or-map_at f k (x ∷ xs) zero h = ap (λ (z : ℕ). f z x) (sym (add-zero k))
get_or-map_at f k (x ∷ xs) (suc j) h = get_or-map_at f (suc k) xs j (le_of_suc-le-suc h) ∙ ap (λ (z : ℕ). f z (get_or xs j 0)) (suc-add k j ∙ sym (add-suc k j))

-- a list that has f at each place is that list
pub map_at_ext : (f : ℕ → ℕ → ℕ) (xs out : List ℕ) → length out ≡ length xs → ((j : ℕ) → j < length xs → get_or out j 0 ≡ f j (get_or xs j 0)) → out ≡ map_at f 0 xs
map_at_ext f xs out e h =
    ext_get_or 0 out (map_at f 0 xs) (e ∙ sym (length-map_at f 0 xs))
    (λ j g. let b : j < length xs = omega arith in
    let z : 0 + j ≡ j = omega arith in
    h j b ∙ ap (λ (q : ℕ). f q (get_or xs j 0)) (sym z) ∙ sym (get_or-map_at f 0 xs j b))

-- ---- a loop that stores f k (xs k) at place k, one place a turn
pub record Upto (f : ℕ → ℕ → ℕ) (xs : List ℕ) (k : ℕ) (out : List ℕ) : Type 0 where
  pub len : length out ≡ length xs
  pub done : (j : ℕ) → j < k → get_or out j 0 ≡ f j (get_or xs j 0)
  pub rest : Framed 0 k xs out

pub upto_none : (f : ℕ → ℕ → ℕ) (xs : List ℕ) → Upto f xs 0 xs
upto_none f xs = record { len = refl; done = λ j h. absurd (not-suc-le-zero h); rest = framed_none 0 0 xs }

pub upto_more : (f : ℕ → ℕ → ℕ) (xs : List ℕ) (k : ℕ) (out : List ℕ) (v : ℕ) → k < length xs → v ≡ f k (get_or xs k 0) → Upto f xs k out → Upto f xs (k + 1) (set out k v)
upto_more f xs k out v h e u = record {
  len = length-set out k v ∙ u.len;
  done = below;
  rest = framed_then 0 (k + 1) xs out (set out k v) (framed_within 0 0 k (k + 1) xs out (omega arith) (omega arith) u.rest) (framed_set 0 (k + 1) k v out (omega arith) (omega arith));
}
  where
    below : (j : ℕ) → j < k + 1 → get_or (set out k v) j 0 ≡ f j (get_or xs j 0)
    below j g = go (dec_lt j k)
      where
        go : Dec (j < k) → get_or (set out k v) j 0 ≡ f j (get_or xs j 0)
        go (yes p) = get_or-set_other out k j v 0 (λ (q : j ≡ k). omega arith) ∙ u.done j p
        go (no p) =
            let w : j < k → ⊥ = p in
            let q : j ≡ k = omega arith in
            rw q (get_or-set_same out k v 0 (rw u.len h) ∙ e)

-- ---- overlays
pub length-overlay : (t form : List ℕ) → length (overlay t form) ≡ length form
unfolding overlay
length-overlay t form = length-map_at (λ (k : ℕ) (old : ℕ). fill (get_or t k 0) old) 0 form

get_or-overlay : (t form : List ℕ) (j : ℕ) → j < length form → get_or (overlay t form) j 0 ≡ fill (get_or t j 0) (get_or form j 0)
unfolding overlay
get_or-overlay t form j h = get_or-map_at (λ (k : ℕ) (old : ℕ). fill (get_or t k 0) old) 0 form j h ∙ ap (λ (z : ℕ). fill (get_or t z 0) (get_or form j 0)) (zero-add j)

fill-fill : (id b a : ℕ) → fill id (fill b a) ≡ fill (fill id b) a
fill-fill id b a = go (eqb a 0) refl
  where
    go : (t : Bool) → eqb a 0 ≡ t → cond (eqb (cond t b a) 0) id (cond t b a) ≡ cond t (fill id b) a
    go true e = refl
    go false e = rw e

fill-overlay : (t form : List ℕ) (slot id : ℕ) → length t ≡ length form → fill_at (overlay t form) slot id ≡ overlay (fill_at t slot id) form
fill-overlay t form slot id e =
    ext_get_or 0 (fill_at (overlay t form) slot id) (overlay (fill_at t slot id) form)
    (length-set (overlay t form) slot _ ∙ length-overlay t form ∙ sym (length-overlay (fill_at t slot id) form))
    (λ j h. let l : length (fill_at (overlay t form) slot id) ≡ length (overlay t form) = length-set (overlay t form) slot _ in let k : length (overlay t form) ≡ length form = length-overlay t form in at j (omega arith) (ℕ_discrete j slot))
  where
    at : (j : ℕ) → j < length form → Dec (j ≡ slot) → get_or (fill_at (overlay t form) slot id) j 0 ≡ get_or (overlay (fill_at t slot id) form) j 0
    at j h (yes q) =
        let g : j < length (overlay t form) = let k : length (overlay t form) ≡ length form = length-overlay t form in omega arith in
        let i : j < length t = omega arith in
        subst (λ (s : ℕ). get_or (fill_at (overlay t form) s id) j 0 ≡ get_or (overlay (fill_at t s id) form) j 0) q
        (get_or-set_same (overlay t form) j _ 0 g
        ∙ ap (fill id) (get_or-overlay t form j h)
        ∙ fill-fill id (get_or t j 0) (get_or form j 0)
        ∙ ap (λ (z : ℕ). fill z (get_or form j 0)) (sym (get_or-set_same t j (fill id (get_or t j 0)) 0 i))
        ∙ sym (get_or-overlay (fill_at t j id) form j h))
    at j h (no q) =
        get_or-set_other (overlay t form) slot j _ 0 q
        ∙ get_or-overlay t form j h
        ∙ ap (λ (z : ℕ). fill z (get_or form j 0)) (sym (get_or-set_other t slot j (fill id (get_or t slot 0)) 0 q))
        ∙ sym (get_or-overlay (fill_at t slot id) form j h)

apply-overlay : (rules t form sites : List ℕ) → length t ≡ length form → apply rules (overlay t form) sites ≡ overlay (apply rules t sites) form
unfolding apply
apply-overlay rules t form [] e = refl
apply-overlay rules t form (s ∷ ss) e =
    ap (λ (z : List ℕ). apply rules z ss) (fill-overlay t form (slot_of s) (id_at rules (rule_of s)) e)
    ∙ apply-overlay rules (fill_site rules t s) form ss (length-set t (slot_of s) _ ∙ e)

-- an empty table changes nothing
overlay_zeros : (form : List ℕ) (n : ℕ) → length form ≡ n → overlay (replicate n 0) form ≡ form
overlay_zeros form n e =
    ext_get_or 0 (overlay (replicate n 0) form) form (length-overlay (replicate n 0) form)
    (λ j h. let k : length (overlay (replicate n 0) form) ≡ length form = length-overlay (replicate n 0) form in let g : j < length form = omega arith in get_or-overlay (replicate n 0) form j g ∙ ap (λ (z : ℕ). fill z (get_or form j 0)) (get_or-replicate n j 0 0 (omega arith)) ∙ zero-fill (get_or form j 0))
  where
    zero-fill : (a : ℕ) → fill 0 a ≡ a
    zero-fill zero = refl
    zero-fill (suc a) = rw (eqb-suc-zero a)

-- ---- fixed rules over a form are a table's that was made once
pub fixed_by-table : (fixed form sites : List ℕ) → length form ≡ 66 → apply fixed form sites ≡ overlay (apply fixed (replicate 66 0) sites) form
fixed_by-table fixed form sites e =
    ap (λ (z : List ℕ). apply fixed z sites) (sym (overlay_zeros form 66 e))
    ∙ apply-overlay fixed (replicate 66 0) form sites (length-replicate {A = ℕ} 66 0 ∙ sym e)
