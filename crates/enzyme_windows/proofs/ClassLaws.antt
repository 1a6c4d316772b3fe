-- Each class of equal windows has one first: sums by the weights of the firsts are sums over all. Assumes nothing.
use Rattle.std.specs.Prelude.{ℕ, zero, suc, ◌+◌, ◌-◌, ◌*◌, ◌≤◌, ◌<◌, ◌≡◌, refl, Bool, true, false, cond, ◌⊎◌, List, leb, length, drop}
use Rattle.std.proofs.Common.{sym, ◌∙◌, inl, inr, arith, leb-true, le-leb}
use Rattle.lists.specs.Tests.{below?}
use Rattle.enzyme_windows.specs.Shared.{in_common, shared_sites, SameWindow}
use Rattle.enzyme_windows.specs.Weights.{sum_to, one_if_same, windows_there, same_count, class_weight}
use Rattle.enzyme_windows.proofs.FirstLaws.{window-alike, alike-window, shared-window, window-shared}
use Rattle.enzyme_windows.specs.GroupLaws.{window_self, window-turned, window_through}
use Rattle.enzyme_windows.specs.SumLaws.{sum_alike, sum-none, sum-times, sum_swap, sum_one}

module _ (ts : List (List ℕ)) (n : ℕ) where
  pub one_same : (i j : ℕ) → SameWindow ts (suc n) i j → one_if_same ts (suc n) i j ≡ 1
  one_same i j w = rw (le-leb (suc n) (in_common (drop i ts) (drop j ts)) (window-alike ts (suc n) i j w))

  -- 1 or 0
  pub same_or : (i j : ℕ) → SameWindow ts (suc n) i j ⊎ (one_if_same ts (suc n) i j ≡ 0)
  same_or i j = go (leb (suc n) (in_common (drop i ts) (drop j ts))) refl
    where
      go : (b : Bool) → leb (suc n) (in_common (drop i ts) (drop j ts)) ≡ b → SameWindow ts (suc n) i j ⊎ (◌≡◌ {A = ℕ} (cond b 1 0) 0)
      go true e = inl (alike-window ts n i j (leb-true (suc n) (in_common (drop i ts) (drop j ts)) e))
      go false e = inr refl

  -- the first of the class of j
  record First (j : ℕ) : Type 0 where
    site : ℕ
    new : shared_sites ts site < suc n
    same : SameWindow ts (suc n) site j

  first_of : (top j : ℕ) → j < top → j + suc n ≤ length ts → First j
  first_of zero j h l = absurd (omega arith)
  first_of (suc top) j h l = go (below? (shared_sites ts j) (suc n)) (first_of top)
    where
      go : (shared_sites ts j < suc n) ⊎ (suc n ≤ shared_sites ts j) → ((p : ℕ) → p < top → p + suc n ≤ length ts → First p) → First j
      go (inl a) ih = record { site = j; new = a; same = window_self ts (suc n) j l }
      go (inr a) ih =
          let w = shared-window ts n j a in
          let o = w.1 in
          let f = ih w.0 (omega arith) w.2.first in
          record { site = f.site; new = f.new; same = window_through ts (suc n) f.site w.0 j f.same w.2 }

  one-first : (i c : ℕ) → shared_sites ts i < suc n → shared_sites ts c < suc n → SameWindow ts (suc n) i c → (i ≡ c → ⊥) → ⊥
  one-first i c a b w d = go (below? i c) (below? c i)
    where
      go : (i < c) ⊎ (c ≤ i) → (c < i) ⊎ (i ≤ c) → ⊥
      go (inl l) y = let z = window-shared ts (suc n) i c l w in omega arith
      go (inr l) (inl k) = let z = window-shared ts (suc n) c i k (window-turned ts (suc n) i c w) in omega arith
      go (inr l) (inr k) = d (omega arith)

  -- a first counts all of its class: at least itself
  pub count-some : (i : ℕ) → i + suc n ≤ length ts → 1 ≤ same_count ts (suc n) i
  count-some i h = go (windows_there ts (suc n)) (omega arith)
    where
      go : (m : ℕ) → i < m → 1 ≤ sum_to (one_if_same ts (suc n) i) m
      go zero l = absurd (omega arith)
      go (suc m) l = step (below? i m) (go m)
        where
          step : (i < m) ⊎ (m ≤ i) → (i < m → 1 ≤ sum_to (one_if_same ts (suc n) i) m) → 1 ≤ one_if_same ts (suc n) i m + sum_to (one_if_same ts (suc n) i) m
          step (inl k) ih = let a = ih k in omega arith
          step (inr k) ih =
              let e : m ≡ i = omega arith in
              let a = one_same i i (window_self ts (suc n) i h) in
              let b : one_if_same ts (suc n) i m ≡ 1 = rw e a in
              omega arith

  module _ (X : ℕ → ℕ) (alike : (i j : ℕ) → SameWindow ts (suc n) i j → X i ≡ X j) where
    abbrev M : ℕ
    M = windows_there ts (suc n)

    -- what the window from i gives to the one from j
    abbrev gift : ℕ → ℕ → ℕ
    gift i j = cond (leb (suc n) (shared_sites ts i)) 0 (one_if_same ts (suc n) i j * X i)

    gives : (i : ℕ) → class_weight ts (suc n) i * X i ≡ sum_to (gift i) M
    gives i = go (leb (suc n) (shared_sites ts i))
      where
        go : (b : Bool) → cond b 0 (same_count ts (suc n) i) * X i ≡ sum_to (λ (j : ℕ). cond b 0 (one_if_same ts (suc n) i j * X i)) M
        go true = let a : 0 * X i ≡ 0 = omega arith in a ∙ sym (sum-none (λ (j : ℕ). 0) M (λ j h. refl))
        go false = sym (sum-times (one_if_same ts (suc n) i) (X i) M)

    gets : (j : ℕ) → j < M → sum_to (λ (i : ℕ). gift i j) M ≡ X j
    gets j h =
        let f = first_of (suc j) j (omega arith) (omega arith) in
        let a = f.same.first in
        sum_one (λ (i : ℕ). gift i j) f.site (X j) M (omega arith) (whole f) (λ i l d. none f i d (below? (shared_sites ts i) (suc n)) (same_or i j))
      where
        whole : (f : First j) → gift f.site j ≡ X j
        whole f =
            let e : leb (suc n) (shared_sites ts f.site) ≡ false = not-le f.site f.new in
            let o = one_same f.site j f.same in
            let x = alike f.site j f.same in
            rw (e, o) (let y : 1 * X f.site ≡ X f.site = omega arith in y ∙ x)
          where
            not-le : (i : ℕ) → shared_sites ts i < suc n → leb (suc n) (shared_sites ts i) ≡ false
            not-le i l = go (leb (suc n) (shared_sites ts i)) refl
              where
                go : (b : Bool) → leb (suc n) (shared_sites ts i) ≡ b → b ≡ false
                go true e = let k = leb-true (suc n) (shared_sites ts i) e in absurd (omega arith)
                go false e = refl

        none : (f : First j) (i : ℕ) → (i ≡ f.site → ⊥) → (shared_sites ts i < suc n) ⊎ (suc n ≤ shared_sites ts i) → SameWindow ts (suc n) i j ⊎ (one_if_same ts (suc n) i j ≡ 0) → gift i j ≡ 0
        none f i d (inr l) s = rw (le-leb (suc n) (shared_sites ts i) l)
        none f i d (inl l) (inl w) = absurd (one-first i f.site l f.new (window_through ts (suc n) i j f.site w (window-turned ts (suc n) f.site j f.same)) d)
        none f i d (inl l) (inr z) = rw z (zero_if (leb (suc n) (shared_sites ts i)))
          where
            zero_if : (b : Bool) → cond b 0 (0 * X i) ≡ 0
            zero_if true = refl
            zero_if false = omega arith

    weighed : sum_to (λ (i : ℕ). class_weight ts (suc n) i * X i) M ≡ sum_to X M
    weighed =
        sum_alike (λ (i : ℕ). class_weight ts (suc n) i * X i) (λ (i : ℕ). sum_to (gift i) M) M (λ i h. gives i)
        ∙ sum_swap gift M M
        ∙ sum_alike (λ (j : ℕ). sum_to (λ (i : ℕ). gift i j) M) X M gets

pub class_sum : (ts : List (List ℕ)) (n : ℕ) (X : ℕ → ℕ) → 1 ≤ n → ((i j : ℕ) → SameWindow ts n i j → X i ≡ X j)
    → sum_to (λ (i : ℕ). class_weight ts n i * X i) (suc (length ts) - n) ≡ sum_to X (suc (length ts) - n)
class_sum ts zero X h alike = absurd (omega arith)
class_sum ts (suc n) X h alike = weighed ts n X alike
