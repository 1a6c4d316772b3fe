-- The letters of a window's parts depend on its pieces alone. Assumes nothing.
use Rattle.std.specs.Prelude.{ℕ, zero, suc, ◌+◌, ◌-◌, ◌≤◌, ◌≡◌, refl, List, [], ◌∷◌, ◌++◌, map, length, take, drop}
use Rattle.std.proofs.Common.{sym, ap, ap₂, ◌∙◌, arith, add-one, length-append, take-append-drop, take-take, take-add, drop-drop}
use Rattle.std.proofs.lemmas.List.{map-append}
use Rattle.enzyme_cuts.specs.Cutting.{Range, range, site, halves, part}
use Rattle.enzyme_windows.specs.Pieces.{end_to_end}
use Rattle.enzyme_windows.specs.WindowLaws.{end_to_end_append}
use Rattle.enzyme_windows.specs.StartLaws.{piece_start, window-letters}
use Rattle.enzyme_once.specs.Once.{endings, openings, own}

-- a part of the first w is a part of all
within : (u n w : ℕ) (l : List ℕ) → u + n ≤ w → take n (drop u (take w l)) ≡ take n (drop u l)
within zero n w l h = take-take n w l (omega arith)
within (suc u) n zero l h = absurd (omega arith)
within (suc u) n (suc w) [] h = refl
within (suc u) n (suc w) (x ∷ xs) h = within u n w xs (omega arith)

-- ---- the parts of the w letters from place a on, by their places among these

module _ (s : List ℕ) (a w : ℕ) where
  abbrev letters : List ℕ
  letters = take w (drop a s)

  one : (c e u v m x : ℕ) → c ≡ a + u → e ≡ a + v → u ≤ v → v ≤ w → part s (range c e m x) ≡ part letters (range u v m x)
  one c e u v m x p q h i =
      let n : e - c ≡ v - u = omega arith in
      rw (n, p, ← drop-drop u a s) (sym (within u (v - u) w (drop a s) (omega arith)))

  endings-letters : (m c e u n : ℕ) → c ≡ a + u → e ≡ a + w → u + n ≤ suc w → map (part s) (endings m e c n) ≡ map (part letters) (endings m w u n)
  endings-letters m c e u zero p q h = refl
  endings-letters m c e u (suc n) p q h =
      ap₂ (λ (t : List ℕ) (ts : List (List ℕ)). t ∷ ts) (one c e u w m 1 p q (omega arith) (omega arith)) (endings-letters m (suc c) e (suc u) n (omega arith) q (omega arith))

  openings-letters : (m c u n : ℕ) → c ≡ a + u → u + n ≤ suc w → map (part s) (openings m a c n) ≡ map (part letters) (openings m 0 u n)
  openings-letters m c u zero p h = refl
  openings-letters m c u (suc n) p h =
      ap₂ (λ (t : List ℕ) (ts : List (List ℕ)). t ∷ ts) (one a c 0 u m 1 (omega arith) p (omega arith) (omega arith)) (openings-letters m (suc c) (suc u) n (omega arith) (omega arith))

  halves-letters : (c e u n : ℕ) → c ≡ a + u → e ≡ a + w → u + n ≤ suc w → map (part s) (halves (site a e) c n) ≡ map (part letters) (halves (site 0 w) u n)
  halves-letters c e u zero p q h = refl
  halves-letters c e u (suc n) p q h =
      ap₂ (λ (t : List ℕ) (ts : List (List ℕ)). t ∷ ts) (one a c 0 u 0 1 (omega arith) p (omega arith) (omega arith))
      (ap₂ (λ (t : List ℕ) (ts : List (List ℕ)). t ∷ ts) (one c e u w 0 1 p q (omega arith) (omega arith)) (halves-letters (suc c) e (suc u) n (omega arith) q (omega arith)))

  -- the first site ends x places on, the last one starts y places on
  own-letters : (m b c e x y : ℕ) → b ≡ a + x → c ≡ a + y → e ≡ a + w → x ≤ w → y ≤ w
      → map (part s) (own m (site a b) (site c e)) ≡ map (part letters) (own m (site 0 x) (site y w))
  own-letters zero b c e x y p q r h i =
      let n : e - suc a ≡ w - 1 = omega arith in
      rw n (halves-letters (suc a) e 1 (w - 1) (omega arith) r (omega arith))
  own-letters (suc m) b c e x y p q r h i =
      let n : b - suc a ≡ x - 1 = omega arith in
      let o : e - suc c ≡ w - suc y = omega arith in
      rw (n, o)
      (map-append (part s) (endings (suc m) e (suc a) (x - 1)) (openings (suc m) a (suc c) (w - suc y))
      ∙ ap₂ (λ (ts us : List (List ℕ)). ts ++ us) (endings-letters (suc m) (suc a) e 1 (x - 1) (omega arith) r (omega arith)) (openings-letters (suc m) (suc c) (suc y) (w - suc y) (omega arith) (omega arith))
      ∙ sym (map-append (part letters) (endings (suc m) w 1 (x - 1)) (openings (suc m) 0 (suc y) (w - suc y))))

-- ---- a window of pieces

start-add : (ts : List (List ℕ)) (i n : ℕ) → piece_start ts (i + n) ≡ piece_start ts i + length (end_to_end (take n (drop i ts)))
start-add ts i n =
    ap (λ (us : List (List ℕ)). length (end_to_end us)) (take-add i n ts)
    ∙ ap length (end_to_end_append (take i ts) (take n (drop i ts)))
    ∙ length-append (end_to_end (take i ts)) (end_to_end (take n (drop i ts)))

first_short : (n : ℕ) (us : List (List ℕ)) → length (end_to_end (take n us)) ≤ length (end_to_end us)
first_short n us =
    let a : end_to_end us ≡ end_to_end (take n us) ++ end_to_end (drop n us) = ap end_to_end (sym (take-append-drop n us)) ∙ end_to_end_append (take n us) (drop n us) in
    let b : length (end_to_end us) ≡ length (end_to_end (take n us)) + length (end_to_end (drop n us)) = ap length a ∙ length-append (end_to_end (take n us)) (end_to_end (drop n us)) in
    omega arith

-- the place of piece i
abbrev pub site_of : List (List ℕ) → ℕ → Range
site_of ts i = site (piece_start ts i) (piece_start ts (suc i))

-- the letters of the parts of a window of the m + 1 pieces us
abbrev pub part_letters : ℕ → List (List ℕ) → List (List ℕ)
part_letters m us = map (part (end_to_end us)) (own m (site 0 (length (end_to_end (take 1 us)))) (site (length (end_to_end (take m us))) (length (end_to_end us))))

pub window_parts : (ts : List (List ℕ)) (m i : ℕ) → map (part (end_to_end ts)) (own m (site_of ts i) (site_of ts (i + m))) ≡ part_letters m (take (suc m) (drop i ts))
window_parts ts m i =
    let us = take (suc m) (drop i ts) in
    let b : piece_start ts (suc i) ≡ piece_start ts i + length (end_to_end (take 1 us)) = rw (take-take 1 (suc m) (drop i ts) (omega arith), ← add-one i) (start-add ts i 1) in
    let c : piece_start ts (i + m) ≡ piece_start ts i + length (end_to_end (take m us)) = rw (take-take m (suc m) (drop i ts) (omega arith)) (start-add ts i m) in
    let d : i + suc m ≡ suc (i + m) = omega arith in
    let e : piece_start ts (suc (i + m)) ≡ piece_start ts i + length (end_to_end us) = rw (← d) (start-add ts i (suc m)) in
    let n : piece_start ts (i + suc m) - piece_start ts i ≡ length (end_to_end us) = omega (arith, start-add ts i (suc m)) in
    let l : take (length (end_to_end us)) (drop (piece_start ts i) (end_to_end ts)) ≡ end_to_end us = rw n at (window-letters ts i (suc m) 0) in
    own-letters (end_to_end ts) (piece_start ts i) (length (end_to_end us)) m (piece_start ts (suc i)) (piece_start ts (i + m)) (piece_start ts (suc (i + m))) (length (end_to_end (take 1 us))) (length (end_to_end (take m us))) b c e (first_short 1 us) (first_short m us)
    ∙ rw l
