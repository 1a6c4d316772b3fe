-- How many ranges of two lists have some letters. Assumes nothing.
use Rattle.std.specs.Prelude.{ℕ, suc, ◌+◌, ◌≡◌, Bool, true, false, cond, List, [], ◌∷◌, ◌++◌}
use Rattle.std.proofs.Common.{arith}
use Rattle.lists.specs.Lists.{same}
use Rattle.enzyme_cuts.specs.Cutting.{Range, part, having}

pub having_append : (s : List ℕ) (xs ys : List Range) (x : List ℕ) → having s (xs ++ ys) x ≡ having s xs x + having s ys x
having_append s [] ys x = omega arith
having_append s (r ∷ xs) ys x = go (same (part s r) x) (having_append s xs ys x)
  where
    go : (b : Bool) → having s (xs ++ ys) x ≡ having s xs x + having s ys x
        → cond b (suc (having s (xs ++ ys) x)) (having s (xs ++ ys) x) ≡ cond b (suc (having s xs x)) (having s xs x) + having s ys x
    go true e = omega arith
    go false e = e
