-- The weights that are known before anything is offered: the classes of equal windows, or 1 each where they are not looked for. Assumes
-- nothing.
use Rattle.std.specs.Prelude.{ℕ, suc, ◌-◌, ◌*◌, ◌≡◌, refl, Bool, true, false, cond, List, length, ltb, leb, eqb}
use Rattle.std.proofs.Common.{sym, subst, ◌∙◌, arith, one-mul, leb-true, leb-false, lt-ltb, le-ltb, ne_eqb}
use Rattle.enzyme_windows.specs.Shared.{shared_sites}
use Rattle.enzyme_windows.proofs.FirstLaws.{shared-window}
use Rattle.enzyme_windows.specs.Weights.{sum_to, same_count, class_weight}
use Rattle.enzyme_windows.specs.SumLaws.{sum_alike}
use Rattle.enzyme_windows.proofs.ClassLaws.{count-some, class_sum}
use Rattle.enzyme_fresh.specs.Fresh.{Repeats}
use Rattle.enzyme_fresh.proofs.FreshLaws.{zero-repeats}
use Rattle.enzyme_semi.specs.WeighedLaws.{SkipsAs}
use Rattle.enzyme_semi.specs.TallyLaws.{WeighsAll}

-- what a window of m + 1 sites from site i stands for
abbrev pub weight_of : Bool → List (List ℕ) → ℕ → ℕ → ℕ
weight_of looked ts m i = cond looked (class_weight ts (suc m) i) 1

-- how many sites it is known to share with one from an earlier site
abbrev pub known_share : Bool → List (List ℕ) → ℕ → ℕ
known_share looked ts i = cond looked (shared_sites ts i) 0

module _ (ts : List (List ℕ)) where
  class_skips : SkipsAs (weight_of true ts) (known_share true ts) (length ts)
  class_skips m i h = go (leb (suc m) (shared_sites ts i)) refl
    where
      go : (b : Bool) → leb (suc m) (shared_sites ts i) ≡ b → eqb (cond b 0 (same_count ts (suc m) i)) 0 ≡ ltb m (shared_sites ts i)
      go true e = sym (lt-ltb m (shared_sites ts i) (omega (arith, leb-true (suc m) (shared_sites ts i) e)))
      go false e =
          let c = count-some ts m i (omega arith) in
          ne_eqb (same_count ts (suc m) i) 0 (λ z. omega arith) ∙ sym (le-ltb m (shared_sites ts i) (omega (arith, leb-false (suc m) (shared_sites ts i) e)))

  class_weighs : WeighsAll ts (weight_of true ts)
  class_weighs m X alike =
      let e : suc (length ts) - suc m ≡ length ts - m = omega arith in
      subst (λ (n : ℕ). sum_to (λ i. class_weight ts (suc m) i * X i) n ≡ sum_to X n) e (class_sum ts (suc m) X (omega arith) alike)

  pub weight_skips : (looked : Bool) → SkipsAs (weight_of looked ts) (known_share looked ts) (length ts)
  weight_skips true = class_skips
  weight_skips false = λ m i h. sym (le-ltb m 0 (omega arith))

  pub weights-all : (looked : Bool) → WeighsAll ts (weight_of looked ts)
  weights-all true = class_weighs
  weights-all false = λ m X alike. sum_alike (λ i. 1 * X i) X (length ts - m) (λ i l. one-mul (X i))

  pub share-repeats : (looked : Bool) → Repeats ts (known_share looked ts)
  share-repeats true = λ i n h l. shared-window ts n i l
  share-repeats false = zero-repeats ts
