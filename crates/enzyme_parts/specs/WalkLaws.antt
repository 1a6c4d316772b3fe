-- What is ahead of each loop of the code: one turn, and the end. Assumes nothing.
use Rattle.std.specs.Prelude.{ℕ, zero, suc, ◌+◌, ◌-◌, ◌≤◌, ◌<◌, ◌≡◌, refl, Bool, true, false, cond, List, [], ◌∷◌, ◌++◌, eqb}
use Rattle.std.proofs.Common.{ap, ◌∙◌, arith, add-one, eq-eqb, ne_eqb}
use Rattle.enzyme_cuts.specs.Cutting.{Range, range, site, halves, windows, windows_from}
use Rattle.enzyme_once.specs.Once.{endings, openings, own}
use Rattle.enzyme_once.specs.SpotLaws.{spots, spans, drop-spots, windows-spans}
use Rattle.enzyme_samples.specs.Ready.{Weighted, loaded}
use Rattle.enzyme_samples.specs.ReadyLaws.{loaded_append}
use Rattle.enzyme_parts.specs.Weighed.{weigh_zip, weigh_owns, weigh_from}
use Rattle.enzyme_parts.specs.Walk.{site_start, sites_in, site_in, weigh_part, weigh_ins, NextUp}

-- ---- the cuts within a site

module _ (r : Range) (c : ℕ) where
  pub halves-on : c < r.to → halves r c (r.to - c) ≡ range r.from c r.missed 1 ∷ range c r.to r.missed 1 ∷ halves r (c + 1) (r.to - (c + 1))
  halves-on h = let e : r.to - c ≡ suc (r.to - (c + 1)) = omega arith in rw (e, add-one c)

  pub halves_end : r.to ≤ c → halves r c (r.to - c) ≡ []
  halves_end h = let e : r.to - c ≡ 0 = omega arith in rw e

-- x is the end of all, or the start of all
module _ (m x c z : ℕ) where
  pub endings-on : c < z → endings m x c (z - c) ≡ range c x m 1 ∷ endings m x (c + 1) (z - (c + 1))
  endings-on h = let e : z - c ≡ suc (z - (c + 1)) = omega arith in rw (e, add-one c)

  pub endings_end : z ≤ c → endings m x c (z - c) ≡ []
  endings_end h = let e : z - c ≡ 0 = omega arith in rw e

  pub openings-on : c < z → openings m x c (z - c) ≡ range x c m 1 ∷ openings m x (c + 1) (z - (c + 1))
  openings-on h = let e : z - c ≡ suc (z - (c + 1)) = omega arith in rw (e, add-one c)

  pub openings_end : z ≤ c → openings m x c (z - c) ≡ []
  openings_end h = let e : z - c ≡ 0 = omega arith in rw e

-- ---- the windows of one size, from the sites i to j on, and their parts

module _ (f : ℕ → ℕ) (m i j n : ℕ) where
  pub spans_on : j < n → spans f m i j (n - j) ≡ range (f i) (f (j + 1)) m 0 ∷ spans f m (i + 1) (j + 1) (n - (j + 1))
  spans_on h = let e : n - j ≡ suc (n - (j + 1)) = omega arith in rw (e, add-one i, add-one j)

  pub spans_end : n ≤ j → spans f m i j (n - j) ≡ []
  spans_end h = let e : n - j ≡ 0 = omega arith in rw e

module _ (f : ℕ → ℕ) (m n : ℕ) where
  pub windows-start : windows m (spots f 0 n) ≡ spans f m 0 m (n - m)
  windows-start = let e : 0 + m ≡ m = omega arith in windows-spans f m 0 n ∙ rw e

-- the parts of a window: none, or all
module _ (x : List ℕ) (times m i j : ℕ) where
  pub weigh_none : times ≡ 0 → weigh_part x times m i j ≡ []
  weigh_none h = rw (eq-eqb times 0 h)

  pub weigh_all : (times ≡ 0 → ⊥) → weigh_part x times m i j ≡ loaded times (own m (site_in x i) (site_in x j))
  weigh_all h = rw (ne_eqb times 0 h)

module _ (x : List ℕ) (w : ℕ → ℕ) (m : ℕ) where
  pub weigh_on : (i j n : ℕ) → j < n → NextUp (weigh_ins x w m i j (n - j)) (weigh_part x (w i) m i j) (weigh_ins x w m (i + 1) (j + 1) (n - (j + 1)))
  weigh_on i j n h = let e : n - j ≡ suc (n - (j + 1)) = omega arith in record { is = ap (weigh_ins x w m i j) e ∙ rw (add-one i, add-one j) }

  pub weigh_end : (i j n : ℕ) → n ≤ j → weigh_ins x w m i j (n - j) ≡ []
  weigh_end i j n h = let e : n - j ≡ 0 = omega arith in rw e

  weigh_zip_lem : (i n j k : ℕ) → k ≤ n → weigh_zip w m i (spots (site_start x) i n) (spots (site_start x) j k) ≡ weigh_ins x w m i j k
  weigh_zip_lem i zero j zero h = refl
  weigh_zip_lem i zero j (suc k) h = absurd (omega arith)
  weigh_zip_lem i (suc n) j zero h = refl
  weigh_zip_lem i (suc n) j (suc k) h = rw (add-one i, add-one j) (go (eqb (w i) 0) (weigh_zip_lem (suc i) n (suc j) k (omega arith)))
    where
      O : List Weighted
      O = loaded (w i) (own m (site (site_start x i) (site_start x (suc i))) (site (site_start x j) (site_start x (suc j))))

      go : (t : Bool) {us vs : List Weighted} → us ≡ vs → cond t us (O ++ us) ≡ cond t [] O ++ vs
      go true e = e
      go false e = ap (λ (ws : List Weighted). O ++ ws) e

  pub weigh_start : (n : ℕ) → weigh_owns w m (sites_in x n) ≡ weigh_ins x w m 0 m (n - m)
  weigh_start n =
      let e : 0 + m ≡ m = omega arith in
      ap (weigh_zip w m 0 (sites_in x n)) (drop-spots (site_start x) m 0 n) ∙ rw e (weigh_zip_lem 0 n m (n - m) (omega arith))

-- ---- the sizes

module _ (rs : List Range) (m left : ℕ) where
  pub sizes-on : 0 < left → NextUp (loaded 1 (windows_from m left rs)) (loaded 1 (windows m rs)) (loaded 1 (windows_from (m + 1) (left - 1) rs))
  sizes-on h =
      let e : left ≡ suc (left - 1) = omega arith in
      let d : windows_from m left rs ≡ windows m rs ++ windows_from (m + 1) (left - 1) rs = ap (λ (x : ℕ). windows_from m x rs) e ∙ rw (add-one m) in
      record { is = ap (loaded 1) d ∙ loaded_append 1 (windows m rs) (windows_from (m + 1) (left - 1) rs) }

  pub window-sizes_end : left ≤ 0 → loaded 1 (windows_from m left rs) ≡ []
  window-sizes_end h = let e : left ≡ 0 = omega arith in rw e

  pub weigh_sizes-on : (w : ℕ → ℕ → ℕ) → 0 < left → NextUp (weigh_from w m left rs) (weigh_owns (w m) m rs) (weigh_from w (m + 1) (left - 1) rs)
  weigh_sizes-on w h = let e : left ≡ suc (left - 1) = omega arith in record { is = ap (λ (x : ℕ). weigh_from w m x rs) e ∙ rw (add-one m) }

  pub weigh_sizes_end : (w : ℕ → ℕ → ℕ) → left ≤ 0 → weigh_from w m left rs ≡ []
  weigh_sizes_end w h = let e : left ≡ 0 = omega arith in rw e

-- ---- the parts of one window

pub own-site : (m : ℕ) (q p : Range) → m ≡ 0 → own m q p ≡ halves (range q.from p.to 0 0) (suc q.from) (p.to - suc q.from)
own-site m q p h = rw h

pub own_many : (m : ℕ) (q p : Range) → (m ≡ 0 → ⊥)
    → own m q p ≡ endings m p.to (suc q.from) (q.to - suc q.from) ++ openings m q.from (suc p.from) (p.to - suc p.from)
own_many zero q p h = absurd (h refl)
own_many (suc m) q p h = refl
