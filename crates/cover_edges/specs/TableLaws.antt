-- Lists of zeros. Assumes nothing.
use Rattle.std.specs.Prelude.{ℕ, ◌≤◌, ◌<◌, ◌≡◌, List, ◌++◌, length, get_or, replicate, drop}
use Rattle.std.proofs.Common.{ap, ◌∙◌, ⊎_elim, append-nil}
use Rattle.std.proofs.lemmas.List.{get_or-replicate}
use Rattle.std.proofs.Math.ListN.{get_or-eq_default}
use Rattle.std.proofs.Math.Seq.{drop-length}
use Rattle.lists.specs.Tests.{below?}

pub zero-at : (l : List ℕ) (i : ℕ) → l ≡ replicate (length l) 0 → get_or l i 0 ≡ 0
zero-at l i z = ⊎_elim (λ (h : i < length l). ap (λ (x : List ℕ). get_or x i 0) z ∙ get_or-replicate {A = ℕ} (length l) i 0 0 h) (λ (h : length l ≤ i). get_or-eq_default l 0 h) (below? i (length l))

pub fill_done : (w : List ℕ) → replicate (length w) 0 ++ drop (length w) w ≡ replicate (length w) 0
fill_done w = ap (λ (l : List ℕ). replicate (length w) 0 ++ l) (drop-length w) ∙ append-nil (replicate (length w) 0)
