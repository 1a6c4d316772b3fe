-- Cuts that a loop may pass over: what they make is longer than any part that is wanted. Assumes nothing.
use Rattle.std.specs.Prelude.{ℕ, zero, suc, ◌+◌, ◌-◌, ◌≤◌, ◌<◌, ◌≡◌, refl, false, ◌&&◌, ◌⊎◌, List, [], ◌∷◌, leb}
use Rattle.std.proofs.Math.Bool.{and-false}
use Rattle.std.proofs.Common.{inl, inr, arith}
use Rattle.std.proofs.lemmas.Bool.{lt-leb}
use Rattle.lists.specs.Tests.{below?}
use Rattle.enzyme_cuts.specs.Cutting.{Range, halves, within}
use Rattle.enzyme_keep.specs.declared.offering.Terms.{Terms}
use Rattle.enzyme_once.specs.Once.{endings, openings}
use Rattle.enzyme_samples.specs.declared.offering.Run.{Run}
use Rattle.enzyme_samples.specs.Ready.{Weighted, weighted, loaded}
use Rattle.enzyme_samples.specs.RangeLaws.{unfit-left}
use Rattle.enzyme_parts.specs.Going.{Underway}
use Rattle.enzyme_parts.specs.GoingLaws.{range-first, range-on}
use Rattle.enzyme_parts.specs.WalkLaws.{halves-on, endings-on, endings_end, openings-on, openings_end}

-- from c on, n steps up
climb : (P : ℕ → Type 0) (n c : ℕ) → ((x : ℕ) → c ≤ x → x < c + n → P x → P (x + 1)) → P c → P (c + n)
climb P zero c on p = let e : c + 0 ≡ c = omega arith in rw e p
climb P (suc n) c on p =
    let e : c + suc n ≡ (c + 1) + n = omega arith in
    rw e (climb P n (c + 1) (λ x l h. on x (omega arith) (omega arith)) (on c (omega arith) (omega arith) p))

-- where each range that is too long may be left out
module _ (maximum : ℕ) (P : List Range → Type 0) (pass : (r : Range) (ys : List Range) → maximum < r.to - r.from → P (r ∷ ys) → P ys) where
  endings_over : (m e z c d : ℕ) → c ≤ d → ((x : ℕ) → c ≤ x → x < d → maximum < e - x) → P (endings m e c (z - c)) → P (endings m e d (z - d))
  endings_over m e z c d l long p =
      let q : c + (d - c) ≡ d = omega arith in
      rw q at (climb (λ (x : ℕ). P (endings m e x (z - x))) (d - c) c (λ x i j. on x (long x i (omega arith)) (below? x z)) p)
    where
      on : (x : ℕ) → maximum < e - x → (x < z) ⊎ (z ≤ x) → P (endings m e x (z - x)) → P (endings m e (x + 1) (z - (x + 1)))
      on x w (inl h) p = pass _ _ w (rw (endings-on m e x z h) at p)
      on x w (inr h) p = rw (endings_end m e (x + 1) z (omega arith)) (rw (endings_end m e x z h) at p)

  openings_over : (m a c e : ℕ) → ((x : ℕ) → c ≤ x → x < e → maximum < x - a) → P (openings m a c (e - c)) → P []
  openings_over m a c e long p =
      rw (openings_end m a (c + (e - c)) e (omega arith)) at
      (climb (λ (x : ℕ). P (openings m a x (e - x))) (e - c) c (λ x i j p. pass _ _ (long x i (omega arith)) (rw (openings-on m a x e (omega arith)) at p)) p)

  halves_over : (r : Range) (c d : ℕ) → c ≤ d → ((x : ℕ) → c ≤ x → x < d → (maximum < x - r.from) × (maximum < r.to - x)) → P (halves r c (r.to - c)) → P (halves r d (r.to - d))
  halves_over r c d l long p =
      let q : c + (d - c) ≡ d = omega arith in
      rw q at (climb (λ (x : ℕ). P (halves r x (r.to - x))) (d - c) c (λ x i j. on x (long x i (omega arith))) p)
    where
      on : (x : ℕ) → (maximum < x - r.from) × (maximum < r.to - x) → P (halves r x (r.to - x)) → P (halves r (x + 1) (r.to - (x + 1)))
      on x w p = let l = w.1 in pass _ _ l (pass _ _ w.0 (rw (halves-on r x (omega arith)) at p))

module _ {s f : List ℕ} {t : Terms} {all : List Weighted} {run₀ : Run} {out₀ marks₀ : List ℕ} {run : Run} {out marks : List ℕ} (times : ℕ) where
  pass-one : (r : Range) (ys : List Range) → t.maximum < r.to - r.from
      → Underway s f t all run₀ out₀ marks₀ (loaded times (r ∷ ys)) run out marks → Underway s f t all run₀ out₀ marks₀ (loaded times ys) run out marks
  pass-one r ys l g =
      let n : ℕ = r.to - r.from in
      let w : within t.minimum t.maximum n ≡ false = rw (lt-leb n t.maximum l) (and-false (leb 1 n && leb t.minimum n)) in
      range-on refl g (unfit-left s f t (weighted r times) run out marks w (range-first refl g)) refl refl

  pub endings-pass : (m e z c d : ℕ) → c ≤ d → ((x : ℕ) → c ≤ x → x < d → t.maximum < e - x)
      → Underway s f t all run₀ out₀ marks₀ (loaded times (endings m e c (z - c))) run out marks → Underway s f t all run₀ out₀ marks₀ (loaded times (endings m e d (z - d))) run out marks
  endings-pass = endings_over t.maximum (λ rest. Underway s f t all run₀ out₀ marks₀ (loaded times rest) run out marks) pass-one

  pub openings-pass : (m a c e : ℕ) → ((x : ℕ) → c ≤ x → x < e → t.maximum < x - a)
      → Underway s f t all run₀ out₀ marks₀ (loaded times (openings m a c (e - c))) run out marks → Underway s f t all run₀ out₀ marks₀ [] run out marks
  openings-pass = openings_over t.maximum (λ rest. Underway s f t all run₀ out₀ marks₀ (loaded times rest) run out marks) pass-one

  pub halves-pass : (r : Range) (c d : ℕ) → c ≤ d → ((x : ℕ) → c ≤ x → x < d → (t.maximum < x - r.from) × (t.maximum < r.to - x))
      → Underway s f t all run₀ out₀ marks₀ (loaded times (halves r c (r.to - c))) run out marks → Underway s f t all run₀ out₀ marks₀ (loaded times (halves r d (r.to - d))) run out marks
  halves-pass = halves_over t.maximum (λ rest. Underway s f t all run₀ out₀ marks₀ (loaded times rest) run out marks) pass-one
