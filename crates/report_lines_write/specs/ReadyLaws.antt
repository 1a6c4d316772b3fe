-- The slice when the groups are ready to be sorted: where they begin, and behind the tag's keys their entries. Assumes nothing.
use Rattle.std.specs.Prelude.{ℕ, suc, ◌+◌, ◌-◌, ◌*◌, ◌/◌, ◌%◌, ◌≤◌, ◌<◌, ◌≡◌, true, cond, eqb, length, get_or, take, drop}
use Rattle.std.proofs.Common.{sym, ap, ◌∙◌, inl, inr, arith, zero-add, ltb-true, length-drop, take-append-drop, drop-drop, get_or-take, get_or-drop, ext_get_or, length-take-le}
use mathlib.Core.List.{List, [], ◌∷◌, ◌++◌, flatten, map, map-map}
use Rattle.std.proofs.Math.Seq.{slice, length-slice}
use Rattle.lists.specs.Lists.{up_from}
use Rattle.lists.specs.RowLaws.{up_in}
use Rattle.lists.specs.InLaws.{map-alike, keep_in}
use Rattle.sorting_spec.specs.Joined.{until_zero, name_of, join}
use Rattle.sorting_texts.specs.Text.{entry_text, joined_text}
use Rattle.sorting_spec.specs.PartLaws.{at_drop, at_slice, slice-same}
use Rattle.report_lines_spec.specs.Stretches.{lasted}
use Rattle.report_lines_write.specs.Laid.{bound_in, stretch_in, some_in, somes, some_starts, text_in, StretchesLaid}
use Rattle.report_lines_write.specs.ListLaws.{length-lasted}
use Rattle.report_lines_write.specs.MarkLaws.{bound-within, LastsMarked}
use Rattle.report_lines_write.specs.CopyLaws.{NumbersCopied, copied-part}
use Rattle.report_lines_write.specs.TextLaws.{Evens, text_there, flat-at}

-- the stretches with their last entries marked, one behind the other
abbrev pub lasted_in : List ℕ → ℕ → ℕ → List ℕ
lasted_in w b k = flatten (map (λ (g : ℕ). lasted (stretch_in w b g)) (up_from 0 k))

pub record TextsReady (w₀ : List ℕ) (c groups : ℕ) (w : List ℕ) (count : ℕ) : Type 0 where
  pub as_long : length w ≡ length w₀
  pub starts : take count w ≡ some_starts w₀ (2 * c + 16) groups
  pub counted : count ≤ groups
  pub tag : take 16 (drop (2 * c) w) ≡ take 16 (drop (2 * c) w₀)
  pub entries : take (bound_in w₀ (2 * c + 16) groups) (drop (2 * c + 16) w) ≡ lasted_in w₀ (2 * c + 16) groups

-- parts are equal whose numbers are
part_same : (n m k : ℕ) (x y : List ℕ) → m + n ≤ length x → k + n ≤ length y → ((i : ℕ) → i < n → get_or x (m + i) 0 ≡ get_or y (k + i) 0) → take n (drop m x) ≡ take n (drop k y)
part_same n m k x y hx hy f =
    ext_get_or 0 (take n (drop m x)) (take n (drop k y)) (long m x hx ∙ sym (long k y hy))
    (λ i h.
    let r : i < n = omega (arith, long m x hx) in
    get_or-take n (drop m x) i 0 r ∙ get_or-drop m x i 0 ∙ f i r ∙ sym (get_or-take n (drop k y) i 0 r ∙ get_or-drop k y i 0))
  where
    long : (j : ℕ) (z : List ℕ) → j + n ≤ length z → length (take n (drop j z)) ≡ n
    long j z h = length-take-le n (drop j z) (omega (arith, length-drop j z))

module _ {w₀ : List ℕ} {c groups : ℕ} (l : StretchesLaid w₀ c groups) {w₁ : List ℕ} {count : ℕ} (m : LastsMarked w₀ c groups w₁ count) {w₂ : List ℕ} (p : NumbersCopied w₁ 0 (2 * c + 16) (bound_in w₀ (2 * c + 16) groups) w₂)
    {w₃ : List ℕ} (q : NumbersCopied w₂ c 0 count w₃) where
  ready_starts : take count w₃ ≡ some_starts w₀ (2 * c + 16) groups
  ready_starts =
      let z : 0 + count ≡ count = zero-add count in
      ap (λ (k : ℕ). slice 0 k w₃) (sym z)
      ∙ copied-part w₂ c 0 count w₃ (omega (arith, p.as_long, m.as_long, l.long, m.counted, l.fit)) (omega (arith, p.as_long, m.as_long, l.long, m.counted, l.fit)) q
      ∙ slice-same c (c + count) w₂ w₁ (omega (arith, p.as_long, m.as_long, l.long, m.counted, l.fit)) (omega (arith, m.as_long, l.long, m.counted, l.fit))
      (λ i h k. p.rest i (inl (omega (arith, m.counted, l.fit))))
      ∙ m.starts

  ready_tag : take 16 (drop (2 * c) w₃) ≡ take 16 (drop (2 * c) w₀)
  ready_tag =
      part_same 16 (2 * c) (2 * c) w₃ w₀ (omega (arith, q.as_long, p.as_long, m.as_long, l.long)) (omega (arith, l.long))
      (λ i h.
      q.rest (2 * c + i) (inr (omega (arith, m.counted, l.fit)))
      ∙ p.rest (2 * c + i) (inl (omega arith))
      ∙ at_drop (2 * c) w₁ w₀ m.behind (2 * c + i) (omega arith))

  ready_entries : take (bound_in w₀ (2 * c + 16) groups) (drop (2 * c + 16) w₃) ≡ lasted_in w₀ (2 * c + 16) groups
  ready_entries =
      part_same (bound_in w₀ (2 * c + 16) groups) (2 * c + 16) 0 w₃ w₁ (omega (arith, q.as_long, p.as_long, m.as_long, l.long, l.within)) (omega (arith, m.as_long, l.long, l.within))
      (λ i h. q.rest (2 * c + 16 + i) (inr (omega (arith, m.counted, l.fit))) ∙ p.copied i h)
      ∙ m.done

  -- THE LAW of what is ready
  pub texts_ready : TextsReady w₀ c groups w₃ count
  texts_ready = record { as_long = q.as_long ∙ p.as_long ∙ m.as_long; starts = ready_starts; counted = m.counted; tag = ready_tag; entries = ready_entries }

evens_of : (xs : List ℕ) → ((i : ℕ) → i < length xs → get_or xs i 0 % 2 ≡ 0) → Evens xs
evens_of [] h = tt
evens_of (x ∷ xs) h = (h 0 (omega arith), evens_of xs (λ i k. h (suc i) (omega arith)))

module _ (w₀ : List ℕ) (c groups : ℕ) (l : StretchesLaid w₀ c groups) where
  stretch-length : (g : ℕ) → g < groups → length (stretch_in w₀ (2 * c + 16) g) ≡ bound_in w₀ (2 * c + 16) (g + 1) - bound_in w₀ (2 * c + 16) g
  stretch-length g h =
      length-slice (bound_in w₀ (2 * c + 16) g) (bound_in w₀ (2 * c + 16) (g + 1)) w₀ (omega (arith, bound-within w₀ c groups (g + 1) l (omega arith), l.within, l.long))

  pub stretch_adds : (g : ℕ) → g < groups → bound_in w₀ (2 * c + 16) g + length (stretch_in w₀ (2 * c + 16) g) ≡ bound_in w₀ (2 * c + 16) (g + 1)
  stretch_adds g h = omega (arith, stretch-length g h, l.rising g h)

  stretch_evens : (g : ℕ) → g < groups → Evens (stretch_in w₀ (2 * c + 16) g)
  stretch_evens g h =
      evens_of (stretch_in w₀ (2 * c + 16) g)
      (λ i k.
      let r : bound_in w₀ (2 * c + 16) g + i < bound_in w₀ (2 * c + 16) (g + 1) = omega (arith, stretch-length g h) in
      let e : get_or (stretch_in w₀ (2 * c + 16) g) i 0 ≡ get_or w₀ (bound_in w₀ (2 * c + 16) g + i) 0 = at_slice (bound_in w₀ (2 * c + 16) g) (bound_in w₀ (2 * c + 16) (g + 1)) w₀ i r in
      rw e (l.even (bound_in w₀ (2 * c + 16) g + i) (omega (arith, bound-within w₀ c groups (g + 1) l (omega arith)))))

  module _ (w : List ℕ) (count : ℕ) (r : TextsReady w₀ c groups w count) (names : List ℕ) where
    tagged-alike : (s : List ℕ) → join 47 (map (entry_text names (drop (2 * c) w)) s) ≡ join 47 (map (entry_text names (drop (2 * c) w₀)) s)
    tagged-alike s = ap (λ (t : List ℕ). join 47 (map (λ (x : ℕ). cond (eqb (x / 2 % 2) 1) (until_zero t) [] ++ until_zero (name_of names (x / 4))) s)) r.tag

    entries_there : (g : ℕ) → g < groups
        → drop (16 + bound_in w₀ (2 * c + 16) g) (drop (2 * c) w) ≡ lasted (stretch_in w₀ (2 * c + 16) g) ++ (drop (bound_in w₀ (2 * c + 16) (g + 1)) (lasted_in w₀ (2 * c + 16) groups) ++ drop (bound_in w₀ (2 * c + 16) groups) (drop (2 * c + 16) w))
    entries_there g h =
        let n : ℕ = bound_in w₀ (2 * c + 16) groups in
        let x : ℕ = bound_in w₀ (2 * c + 16) g in
        let e : 2 * c + (16 + x) ≡ 2 * c + 16 + x = omega arith in
        drop-drop (16 + x) (2 * c) w
        ∙ ap (λ (k : ℕ). drop k w) e
        ∙ sym (drop-drop x (2 * c + 16) w)
        ∙ ap (drop x) (sym (take-append-drop n (drop (2 * c + 16) w)) ∙ ap (λ (z : List ℕ). z ++ drop n (drop (2 * c + 16) w)) r.entries)
        ∙ flat-at (λ (k : ℕ). lasted (stretch_in w₀ (2 * c + 16) k)) (bound_in w₀ (2 * c + 16)) l.first groups
        (λ k f. ap (λ (y : ℕ). bound_in w₀ (2 * c + 16) k + y) (length-lasted (stretch_in w₀ (2 * c + 16) k)) ∙ stretch_adds k f)
        g (drop n (drop (2 * c + 16) w)) h

    pub ready_text : (g : ℕ) → g < groups → some_in w₀ (2 * c + 16) g ≡ true → joined_text names (drop (2 * c) w) (bound_in w₀ (2 * c + 16) g) ≡ text_in names w₀ c g
    ready_text g h t =
        text_there names (drop (2 * c) w) (bound_in w₀ (2 * c + 16) g) (stretch_in w₀ (2 * c + 16) g) (drop (bound_in w₀ (2 * c + 16) (g + 1)) (lasted_in w₀ (2 * c + 16) groups) ++ drop (bound_in w₀ (2 * c + 16) groups) (drop (2 * c + 16) w))
        (omega (arith, stretch-length g h, ltb-true (bound_in w₀ (2 * c + 16) g) (bound_in w₀ (2 * c + 16) (g + 1)) t)) (stretch_evens g h) (entries_there g h)
        ∙ tagged-alike (stretch_in w₀ (2 * c + 16) g)

    -- THE LAW: the texts of the starts are those of the groups
    pub ready_texts : map (joined_text names (drop (2 * c) w)) (take count w) ≡ map (text_in names w₀ c) (somes w₀ (2 * c + 16) groups)
    ready_texts =
        ap (map (joined_text names (drop (2 * c) w))) r.starts
        ∙ map-map (joined_text names (drop (2 * c) w)) (bound_in w₀ (2 * c + 16)) (somes w₀ (2 * c + 16) groups)
        ∙ map-alike (λ (g : ℕ). joined_text names (drop (2 * c) w) (bound_in w₀ (2 * c + 16) g)) (text_in names w₀ c) (somes w₀ (2 * c + 16) groups)
        (λ g i.
        let k = keep_in g (some_in w₀ (2 * c + 16)) (up_from 0 groups) i in
        ready_text g (omega (arith, up_in g 0 groups k.0)) k.1)
