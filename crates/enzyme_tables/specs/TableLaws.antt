-- New tables are as long as they are made, and zero. Assumes nothing.
use Rattle.std.specs.Prelude.{ℕ, ◌≤◌, ◌<◌, ◌≡◌, length, get_or, replicate}
use Rattle.std.proofs.Common.{⊎_elim, arith}
use Rattle.std.proofs.lemmas.List.{length-replicate, get_or-replicate}
use Rattle.std.proofs.Math.ListN.{get_or-eq_default}
use Rattle.lists.specs.Tests.{below?}

module _ (k n : ℕ) where
  pub as_long : n ≤ k → n ≤ length (replicate {0} {A = ℕ} k 0)
  as_long h = rw (length-replicate {0} {A = ℕ} k 0) h

  pub longer : n < k → n < length (replicate {0} {A = ℕ} k 0)
  longer h = rw (length-replicate {0} {A = ℕ} k 0) h

pub zeros : (k x : ℕ) → get_or (replicate {0} {A = ℕ} k 0) x 0 ≡ 0
zeros k x = ⊎_elim (λ (h : x < k). get_or-replicate k x 0 0 h) (λ (h : k ≤ x). get_or-eq_default (replicate k 0) 0 {n = x} (omega (arith, length-replicate {A = ℕ} k 0))) (below? x k)
