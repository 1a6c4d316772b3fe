-- Lists joined by a number: how long they are, and how often a number stands in them. Assumes nothing.
use Rattle.std.specs.Prelude.{ℕ, suc, ◌+◌, ◌≡◌, refl, Bool, true, false, cond, List, [], ◌∷◌, ◌++◌, eqb, length}
use Rattle.std.proofs.Common.{arith, length-append}
use Rattle.lists.specs.Lists.{times}
use Rattle.lists.specs.FirstLaws.{times_append}
use Rattle.lists.specs.TotalLaws.{total}
use Rattle.sorting_spec.specs.Joined.{join_after}

pub length-joined : (by : ℕ) (ls : List (List ℕ)) → length (join_after by ls) ≡ total (λ (l : List ℕ). suc (length l)) ls
length-joined by [] = refl
length-joined by (l ∷ ls) = omega (arith, length-append l (join_after by ls), length-joined by ls)

pub times-joined : (k by : ℕ) (ls : List (List ℕ)) → times k (join_after by ls) ≡ cond (eqb by k) (length ls) 0 + total (times k) ls
times-joined k by [] = go (eqb by k)
  where
    go : (t : Bool) → 0 ≡ cond t 0 0 + 0
    go true = refl
    go false = refl
times-joined k by (l ∷ ls) = go (eqb by k) (times-joined k by ls)
  where
    go : (t : Bool) → times k (join_after by ls) ≡ cond t (length ls) 0 + total (times k) ls
        → cond t (suc (times k (l ++ join_after by ls))) (times k (l ++ join_after by ls)) ≡ cond t (suc (length ls)) 0 + (times k l + total (times k) ls)
    go true r = omega (arith, r, times_append k l (join_after by ls))
    go false r = omega (arith, r, times_append k l (join_after by ls))
