-- The last entry of each stretch marked, and where stretches begin: the turns of the code. Assumes nothing.
use Rattle.std.specs.Prelude.{ℕ, zero, suc, ◌+◌, ◌-◌, ◌*◌, ◌%◌, ◌≤◌, ◌<◌, ◌≡◌, refl, Bool, cond, ltb, length, get_or, set, take, drop}
use Rattle.std.proofs.Common.{sym, ap, ◌∙◌, ⊎_elim, arith, add-one, lt-ltb, le-ltb, length-set, take-suc-set, drop-set-lt, get_or-set_other}
use mathlib.Core.List.{List, [], ◌∷◌, ◌++◌, flatten, map, append_assoc, append-nil}
use Rattle.std.proofs.Math.Seq.{slice, slice_empty}
use Rattle.std.proofs.lemmas.List.{take-set-le}
use Rattle.lists.specs.Tests.{below?}
use Rattle.lists.specs.Lists.{up_from, keep}
use Rattle.sorting_spec.specs.PartLaws.{at_drop, slice-same, slice-join, slice_snoc, slice_set}
use Rattle.report_lines_spec.specs.Stretches.{lasted}
use Rattle.report_lines_write.specs.Laid.{bound_in, stretch_in, some_in, some_starts, StretchesLaid}
use Rattle.report_lines_write.specs.ListLaws.{flat_up, kept-up, lasted-snoc}

-- boundaries rise
pub below-bound : (w : List ℕ) (c groups : ℕ) → StretchesLaid w c groups → (k g : ℕ) → g + k ≡ groups → bound_in w (2 * c + 16) g ≤ bound_in w (2 * c + 16) groups
below-bound w c groups l zero g e = let z : g ≡ groups = omega arith in rw z (omega arith)
below-bound w c groups l (suc k) g e = omega (arith, l.rising g (omega arith), below-bound w c groups l k (g + 1) (omega arith))

pub bound-within : (w : List ℕ) (c groups g : ℕ) → StretchesLaid w c groups → g ≤ groups → bound_in w (2 * c + 16) g ≤ bound_in w (2 * c + 16) groups
bound-within w c groups g l h = below-bound w c groups l (groups - g) g (omega arith)

-- the slice with a group's last entry marked and its start noted
abbrev pub marked : ℕ → ℕ → ℕ → ℕ → List ℕ → List ℕ
marked c b g count w = cond (some_in w b g) (set (set w (bound_in w b (g + 1) - 1) (get_or w (bound_in w b (g + 1) - 1) 0 + 1)) (c + count) (bound_in w b g)) w

-- after g groups of w₀, with `count` starts noted
pub record LastsMarked (w₀ : List ℕ) (c g : ℕ) (w : List ℕ) (count : ℕ) : Type 0 where
  pub as_long : length w ≡ length w₀
  pub behind : drop (2 * c) w ≡ drop (2 * c) w₀
  pub ahead : (i : ℕ) → bound_in w₀ (2 * c + 16) g ≤ i → i < c → get_or w i 0 ≡ get_or w₀ i 0
  pub done : take (bound_in w₀ (2 * c + 16) g) w ≡ flatten (map (λ (k : ℕ). lasted (stretch_in w₀ (2 * c + 16) k)) (up_from 0 g))
  pub starts : slice c (c + count) w ≡ some_starts w₀ (2 * c + 16) g
  pub counted : count ≤ g

-- before the first group
pub lasts_none : {w : List ℕ} {c groups : ℕ} → StretchesLaid w c groups → LastsMarked w c 0 w 0
unfolding flatten
lasts_none {w} {c} {groups} l = record {
  as_long = refl;
  behind = refl;
  ahead = λ i h k. refl;
  done = ap (λ (k : ℕ). take k w) l.first;
  starts = (let e : c + 0 ≡ c = omega arith in ap (λ (k : ℕ). slice c k w) e) ∙ slice_empty c w;
  counted = omega arith;
}

module _ {w₀ : List ℕ} {c groups : ℕ} (l : StretchesLaid w₀ c groups) {g : ℕ} (few : g < groups) {w : List ℕ} {count : ℕ} (m : LastsMarked w₀ c g w count) where
  abbrev lo : ℕ
  lo = bound_in w₀ (2 * c + 16) g

  abbrev hi : ℕ
  hi = bound_in w₀ (2 * c + 16) (g + 1)

  -- the boundaries are as they were
  pub bound-kept : (k : ℕ) → bound_in w (2 * c + 16) k ≡ bound_in w₀ (2 * c + 16) k
  bound-kept k = at_drop (2 * c) w w₀ m.behind (2 * c + 16 + k) (omega arith)

  high : hi ≤ c
  high = omega (arith, bound-within w₀ c groups (g + 1) l (omega arith), l.within)

  one_more : up_from 0 (g + 1) ≡ up_from 0 (suc g)
  one_more = ap (up_from 0) (add-one g)

  kept : some_starts w₀ (2 * c + 16) (g + 1) ≡ some_starts w₀ (2 * c + 16) g ++ cond (some_in w₀ (2 * c + 16) g) (lo ∷ []) []
  kept = ap (λ (u : List ℕ). map (bound_in w₀ (2 * c + 16)) (keep (some_in w₀ (2 * c + 16)) u)) one_more ∙ kept-up (some_in w₀ (2 * c + 16)) (bound_in w₀ (2 * c + 16)) g

  flat : flatten (map (λ (k : ℕ). lasted (stretch_in w₀ (2 * c + 16) k)) (up_from 0 (g + 1))) ≡ flatten (map (λ (k : ℕ). lasted (stretch_in w₀ (2 * c + 16) k)) (up_from 0 g)) ++ lasted (slice lo hi w₀)
  flat = ap (λ (u : List ℕ). flatten (map (λ (k : ℕ). lasted (stretch_in w₀ (2 * c + 16) k)) u)) one_more ∙ flat_up (λ (k : ℕ). lasted (stretch_in w₀ (2 * c + 16) k)) g

  -- an empty stretch
  mark-none : hi ≤ lo → LastsMarked w₀ c (g + 1) w count
  mark-none h =
      let e : lo ≡ hi = omega (arith, l.rising g few) in
      let nil : slice lo hi w₀ ≡ [] = ap (λ (k : ℕ). slice k hi w₀) e ∙ slice_empty hi w₀ in
      let f : List ℕ = flatten (map (λ (k : ℕ). lasted (stretch_in w₀ (2 * c + 16) k)) (up_from 0 g)) in
      record {
        as_long = m.as_long;
        behind = m.behind;
        ahead = λ i p q. m.ahead i (omega arith) q;
        done = ap (λ (k : ℕ). take k w) (sym e) ∙ m.done ∙ sym (append-nil f) ∙ ap (λ (x : List ℕ). f ++ lasted x) (sym nil) ∙ sym flat;
        starts = m.starts ∙ sym (append-nil (some_starts w₀ (2 * c + 16) g)) ∙ ap (λ (t : Bool). some_starts w₀ (2 * c + 16) g ++ cond t (lo ∷ []) []) (sym (le-ltb lo hi h)) ∙ sym kept;
        counted = omega (arith, m.counted);
      }

  module _ (h : lo < hi) (p v : ℕ) (is : hi ≡ suc p) (next : v ≡ suc (get_or w₀ p 0)) where
    same-part : slice lo p w ≡ slice lo p w₀
    same-part = slice-same lo p w w₀ (omega (arith, m.as_long, l.long, high)) (omega (arith, l.long, high)) (λ i q r. m.ahead i q (omega (arith, high)))

    fits : p < length w
    fits = omega (arith, m.as_long, l.long, high)

    last-marked : take hi (set (set w p v) (c + count) lo) ≡ take lo w ++ lasted (slice lo hi w₀)
    last-marked =
        take-set-le hi (set w p v) (c + count) lo (omega (arith, high))
        ∙ ap (λ (k : ℕ). take k (set w p v)) is
        ∙ take-suc-set w p v fits
        ∙ ap (λ (x : List ℕ). x ++ (v ∷ [])) (sym (slice-join 0 lo p w (omega arith) (omega arith) (omega (arith, fits))))
        ∙ append_assoc (take lo w) (slice lo p w) (v ∷ [])
        ∙ ap (λ (x : List ℕ). take lo w ++ (x ++ (v ∷ []))) same-part
        ∙ ap (λ (x : ℕ). take lo w ++ (slice lo p w₀ ++ (x ∷ []))) next
        ∙ ap (λ (x : List ℕ). take lo w ++ x) (sym (lasted-snoc (slice lo p w₀) (get_or w₀ p 0)))
        ∙ ap (λ (x : List ℕ). take lo w ++ lasted x) (sym (slice_snoc lo p w₀ (omega arith) (omega (arith, l.long, high))))
        ∙ ap (λ (k : ℕ). take lo w ++ lasted (slice lo k w₀)) (sym is)

    noted : slice c (c + (count + 1)) (set (set w p v) (c + count) lo) ≡ slice c (c + count) w ++ (lo ∷ [])
    noted =
        let e : c + (count + 1) ≡ suc (c + count) = omega arith in
        let room : c + count < length w = omega (arith, m.as_long, l.long, m.counted, l.fit) in
        ap (λ (k : ℕ). slice c k (set (set w p v) (c + count) lo)) e
        ∙ slice_set c (c + count) lo (set w p v) (omega arith) (omega (arith, length-set w p v))
        ∙ ap (λ (x : List ℕ). x ++ (lo ∷ []))
        (slice-same c (c + count) (set w p v) w (omega (arith, length-set w p v)) (omega arith) (λ i q r. get_or-set_other w p i v 0 (λ (z : i ≡ p). omega (arith, high))))

    mark-some : LastsMarked w₀ c (g + 1) (set (set w p v) (c + count) lo) (count + 1)
    mark-some = record {
      as_long = length-set (set w p v) (c + count) lo ∙ length-set w p v ∙ m.as_long;
      behind =
          drop-set-lt (2 * c) (set w p v) (c + count) lo (omega (arith, m.counted, l.fit))
          ∙ drop-set-lt (2 * c) w p v (omega (arith, high))
          ∙ m.behind;
      ahead = λ i q r.
          get_or-set_other (set w p v) (c + count) i lo 0 (λ (z : i ≡ c + count). omega arith)
          ∙ get_or-set_other w p i v 0 (λ (z : i ≡ p). omega arith)
          ∙ m.ahead i (omega arith) r;
      done = last-marked ∙ ap (λ (x : List ℕ). x ++ lasted (slice lo hi w₀)) m.done ∙ sym flat;
      starts = noted ∙ ap (λ (x : List ℕ). x ++ (lo ∷ [])) m.starts ∙ ap (λ (t : Bool). some_starts w₀ (2 * c + 16) g ++ cond t (lo ∷ []) []) (sym (lt-ltb lo hi h)) ∙ sym kept;
      counted = omega (arith, m.counted);
    }

  -- what the code may ask of the slice
  pub mark-fits : (2 * c + 16 + (g + 1) < length w) × (bound_in w (2 * c + 16) (g + 1) ≤ c) × (c + count < length w)
  mark-fits = (
    omega (arith, m.as_long, l.long, l.fit),
    omega (arith, bound-kept (g + 1), high),
    omega (arith, m.as_long, l.long, m.counted, l.fit),
  )

  pub mark-small : ((i : ℕ) → get_or w₀ i 0 < 4294967296) → bound_in w (2 * c + 16) g < bound_in w (2 * c + 16) (g + 1) → get_or w (bound_in w (2 * c + 16) (g + 1) - 1) 0 < 4294967295
  mark-small r h =
      let k : lo < hi = omega (arith, bound-kept g, bound-kept (g + 1)) in
      let e : get_or w₀ (hi - 1) 0 % 2 ≡ 0 = l.even (hi - 1) (omega (arith, bound-within w₀ c groups (g + 1) l (omega arith))) in
      rw (bound-kept (g + 1)) (omega (arith, r (hi - 1), m.ahead (hi - 1) (omega arith) (omega (arith, high))))

  -- THE LAW of a turn
  pub mark-turn : LastsMarked w₀ c (g + 1) (marked c (2 * c + 16) g count w) (cond (some_in w (2 * c + 16) g) (count + 1) count)
  mark-turn = rw (bound-kept g, bound-kept (g + 1)) (⊎_elim more none (below? lo hi))
    where
      none : hi ≤ lo → LastsMarked w₀ c (g + 1) (cond (ltb lo hi) (set (set w (hi - 1) (get_or w (hi - 1) 0 + 1)) (c + count) lo) w) (cond (ltb lo hi) (count + 1) count)
      none h = rw (le-ltb lo hi h) (mark-none h)

      more : lo < hi → LastsMarked w₀ c (g + 1) (cond (ltb lo hi) (set (set w (hi - 1) (get_or w (hi - 1) 0 + 1)) (c + count) lo) w) (cond (ltb lo hi) (count + 1) count)
      more h =
          rw (lt-ltb lo hi h)
          (mark-some h (hi - 1) (get_or w (hi - 1) 0 + 1) (omega arith) (add-one (get_or w (hi - 1) 0) ∙ ap suc (m.ahead (hi - 1) (omega arith) (omega (arith, high)))))
