-- Parts of a list by where they begin and how long they are. Assumes nothing.
use Rattle.std.specs.Prelude.{◌≡◌, List, ℕ, ◌+◌, ◌-◌, ◌≤◌, length}
use Rattle.std.proofs.Common.{◌∙◌, inl, inr, arith}
use Rattle.std.proofs.Math.Seq.{slice, length-slice}
use Rattle.lists.specs.FrameLaws.{Out}

pub slice_long : (a n : ℕ) (w : List ℕ) → a + n ≤ length w → length (slice a (a + n) w) ≡ n
slice_long a n w h = length-slice a (a + n) w h ∙ (let u : a + n - a ≡ n = omega arith in u)

-- outside a place more
pub out_more : (j a i : ℕ) → Out j a (a + (i + 1)) → Out j a (a + i) × (j ≡ a + i → ⊥)
out_more j a i (inl h) = (inl h, λ (z : j ≡ a + i). let f : ⊥ = omega arith in f)
out_more j a i (inr h) = (inr (omega arith), λ (z : j ≡ a + i). let f : ⊥ = omega arith in f)
