-- A run goes on, or ends; and what the tests of the tables say. Assumes nothing.
use Rattle.std.specs.Prelude.{ℕ, suc, ◌+◌, ◌-◌, ◌*◌, ◌≤◌, ◌<◌, min, ◌≡◌, refl, ◌⊎◌, Bool, true, false, ◌&&◌, List, ltb, eqb, get_or}
use Rattle.std.proofs.Common.{◌∙◌, inl, inr, arith, add-one, eq-eqb, ne_eqb, lt-ltb, le-ltb, ltb-true, ltb-false, le-leb}
use Rattle.std.proofs.lemmas.Bool.{eqb-false, lt-leb}
use Rattle.lists.specs.Tests.{same?, below?, both}
use Rattle.enzyme_weights.specs.Weights.{run_from, run_size, class_size, weight_in}

module _ (runs : List ℕ) (g p q : ℕ) where
  pub size-on : q < g → get_or runs q 0 ≡ p → run_from runs p q (g - q) ≡ suc (run_from runs p (q + 1) (g - (q + 1)))
  size-on h e =
      let n : g - q ≡ suc (g - (q + 1)) = omega arith in
      rw (n, eq-eqb (get_or runs q 0) p e, add-one q)

  pub size_stop : q < g → (get_or runs q 0 ≡ p → ⊥) → run_from runs p q (g - q) ≡ 0
  size_stop h d =
      let n : g - q ≡ suc (g - (q + 1)) = omega arith in
      rw (n, ne_eqb (get_or runs q 0) p d)

  pub size_end : g ≤ q → run_from runs p q (g - q) ≡ 0
  size_end h = let n : g - q ≡ 0 = omega arith in rw n

module _ (order runs rank : List ℕ) (g i p : ℕ) (e : p ≡ get_or rank i 0) where
  pub class_past : g ≤ p → 1 ≡ class_size order runs rank g i
  class_past h = rw (← e, le-ltb p g h)

  pub class_other : p < g → (get_or order p 0 ≡ i → ⊥) → 1 ≡ class_size order runs rank g i
  class_other h d = rw (← e, lt-ltb p g h, ne_eqb (get_or order p 0) i d)

  pub class_run : (ltb p g && eqb (get_or order p 0) i) ≡ true → run_size runs g p ≡ class_size order runs rank g i
  class_run h = let t = both (ltb p g) (eqb (get_or order p 0) i) h in rw (← e, t.0, t.1)

  pub class_alone : (ltb p g && eqb (get_or order p 0) i) ≡ false → 1 ≡ class_size order runs rank g i
  class_alone h = go (ltb p g) refl h
    where
      go : (a : Bool) → ltb p g ≡ a → (a && eqb (get_or order p 0) i) ≡ false → 1 ≡ class_size order runs rank g i
      go false q r = class_past (ltb-false p g q)
      go true q r = class_other (ltb-true p g q) (eqb-false (get_or order p 0) i r)

-- a place and what stands there, told as one number; where the place is not among the first g, the last of them is looked at
pub told-once : (order : List ℕ) (g p i at x : ℕ) → 0 < g → at ≡ min p (g - 1) → x ≡ get_or order at 0 → x < 65536
    → eqb (65536 * at + x) (65536 * p + i) ≡ (ltb p g && eqb (get_or order p 0) i)
told-once order g p i at x some e f small = go (below? p g)
  where
    go : (p < g) ⊎ (g ≤ p) → eqb (65536 * at + x) (65536 * p + i) ≡ (ltb p g && eqb (get_or order p 0) i)
    go (inr h) = rw (le-ltb p g h) (ne_eqb (65536 * at + x) (65536 * p + i) (λ q. omega arith))
    go (inl h) = let y : at ≡ p = omega arith in
        let z : x ≡ get_or order p 0 = rw y at f in
        rw (lt-ltb p g h, y, ← z) (by (same? x i))
      where
        by : (x ≡ i) ⊎ (x ≡ i → ⊥) → eqb (65536 * p + x) (65536 * p + i) ≡ eqb x i
        by (inl q) = rw (eq-eqb x i q) (eq-eqb (65536 * p + x) (65536 * p + i) (omega arith))
        by (inr q) = rw (ne_eqb x i q) (ne_eqb (65536 * p + x) (65536 * p + i) (λ r. q (omega arith)))

module _ (order runs rank share : List ℕ) (g n i : ℕ) where
  pub weight-shared : n ≤ get_or share i 0 → 0 ≡ weight_in order runs rank share g n i
  weight-shared h = rw (le-leb n (get_or share i 0) h)

  pub weight_class : get_or share i 0 < n → class_size order runs rank g i ≡ weight_in order runs rank share g n i
  weight_class h = rw (lt-leb n (get_or share i 0) h)

  pub weight-none : get_or share i 0 < n → g ≡ 0 → 1 ≡ weight_in order runs rank share g n i
  weight-none h z = class_past order runs rank g i (get_or rank i 0) refl (omega arith) ∙ weight_class h
