-- The parts that are offered are those of all windows, with some left out. Assumes nothing.
use Rattle.std.specs.Prelude.{ℕ, zero, suc, Bool, true, false, cond, drop, ltb}
use Rattle.std.proofs.Common.{inl, inr}
use mathlib.Core.List.Sublistᴰ
use mathlib.Core.List.{List, [], ◌∷◌, ◌++◌, Sublistᴰ}
use Rattle.enzyme_cuts.specs.Cutting.{Range}
use Rattle.enzyme_cuts.specs.Work.{RangesWithin}
use Rattle.enzyme_once.specs.Once.{own, own_zip, owns_from}
use Rattle.enzyme_once.specs.ThinLaws.{Hit}
use Rattle.enzyme_once.specs.DistinctLaws.{NoRangeTwice}
use Rattle.enzyme_fresh.specs.Fresh.{fresh_zip, fresh_from}

fewer_hit : {xs ys : List Range} (a e : ℕ) → Sublistᴰ ys xs → Hit a e ys → Hit a e xs
fewer_hit a e Sublistᴰ.slnil h = h
fewer_hit a e (Sublistᴰ.cons p) h = inr (fewer_hit a e p h)
fewer_hit a e (Sublistᴰ.cons-cons q p) (inl h) = inl (rw (← q) h)
fewer_hit a e (Sublistᴰ.cons-cons q p) (inr h) = inr (fewer_hit a e p h)

pub fewer_distinct : {xs ys : List Range} → Sublistᴰ ys xs → NoRangeTwice xs → NoRangeTwice ys
fewer_distinct Sublistᴰ.slnil h = tt
fewer_distinct (Sublistᴰ.cons p) h = fewer_distinct p h.1
fewer_distinct (Sublistᴰ.cons-cons {a = y} q p) h = (λ g. h.0 (rw q at (fewer_hit y.from y.to p g)), fewer_distinct p h.1)

pub fewer_inside : {xs ys : List Range} (n : ℕ) → Sublistᴰ ys xs → RangesWithin n xs → RangesWithin n ys
fewer_inside n Sublistᴰ.slnil h = tt
fewer_inside n (Sublistᴰ.cons p) h = fewer_inside n p h.2
fewer_inside n (Sublistᴰ.cons-cons q p) h = rw q (h.0, h.1, fewer_inside n p h.2)

module _ (f : ℕ → ℕ) where
  zip_fewer : (m i : ℕ) (qs ps : List Range) → Sublistᴰ (fresh_zip f m i qs ps) (own_zip m qs ps)
  zip_fewer m i [] ps = Sublistᴰ.slnil
  zip_fewer m i (q ∷ qs) [] = Sublistᴰ.slnil
  zip_fewer m i (q ∷ qs) (p ∷ ps) = go (ltb m (f i)) (zip_fewer m (suc i) qs ps)
    where
      go : (t : Bool) → Sublistᴰ (fresh_zip f m (suc i) qs ps) (own_zip m qs ps)
          → Sublistᴰ (cond t (fresh_zip f m (suc i) qs ps) (own m q p ++ fresh_zip f m (suc i) qs ps)) (own m q p ++ own_zip m qs ps)
      go true ih = Sublistᴰ.append (Sublistᴰ.nil-sublist (own m q p)) ih
      go false ih = Sublistᴰ.append (Sublistᴰ.refl (own m q p)) ih

  pub from_fewer : (n m : ℕ) (rs : List Range) → Sublistᴰ (fresh_from f m n rs) (owns_from m n rs)
  from_fewer zero m rs = Sublistᴰ.slnil
  from_fewer (suc n) m rs = Sublistᴰ.append (zip_fewer m 0 rs (drop m rs)) (from_fewer n (suc m) rs)
