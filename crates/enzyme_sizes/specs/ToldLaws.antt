-- What is read off the tables of a level is what was known before. Assumes nothing.
use Rattle.std.specs.Prelude.{ℕ, zero, suc, ◌+◌, ◌<◌, ◌≡◌, refl, Bool, true, false, List, length}
use Rattle.std.proofs.Common.{sym, ap, ◌∙◌, true≢false, arith}
use Rattle.enzyme_once.specs.SpotLaws.{spots}
use Rattle.enzyme_weights.specs.Weights.{weight_in}
use Rattle.enzyme_weights.specs.SizeLaws.{weight-none}
use Rattle.enzyme_words.specs.Words.{Zeros}
use Rattle.enzyme_levels.specs.Levels.{LevelRanked}
use Rattle.enzyme_levels.specs.WeightLaws.{level_weighs}
use Rattle.enzyme_parts.specs.Walk.{site_start, sites_in}
use Rattle.enzyme_parts.specs.Weighed.{weigh_owns}
use Rattle.enzyme_semi.specs.Tables.{TablesServe}
use Rattle.enzyme_semi.specs.WeighedLaws.{weigh_alike}
use Rattle.enzyme_semi.specs.WeightLaws.{weight_of}
use Rattle.enzyme_sizes.specs.Told.{TablesLong, LevelTold}

pub told_yes : {looked : Bool} {ts : List (List ℕ)} {s starts order runs name rank share : List ℕ} {n g m : ℕ} → looked ≡ true → LevelRanked ts s starts order runs name rank share n g m
    → LevelTold looked ts s starts order runs name rank share n g m
told_yes e h = record { ranked = λ d. h; silent = λ d. absurd (true≢false (sym e ∙ d)) }

pub told_no : {looked : Bool} {ts : List (List ℕ)} {s starts order runs name rank share : List ℕ} {n g m : ℕ} → looked ≡ false → g ≡ 0 → Zeros share
    → LevelTold looked ts s starts order runs name rank share n g m
told_no e h z = record { ranked = λ d. absurd (true≢false (sym d ∙ e)); silent = λ d. (h, z) }

-- tables as long
pub long_same : {looked : Bool} {order other rank share order' other' rank' share' : List ℕ} {m : ℕ} → TablesLong looked order other rank share m
    → length order' ≡ length order → length other' ≡ length other → length rank' ≡ length rank → length share' ≡ length share → TablesLong looked order' other' rank' share' m
long_same h a b c d = record {
  for_order = λ e. let x = h.for_order e in omega arith;
  for_other = λ e. let x = h.for_other e in omega arith;
  for_rank = λ e. let x = h.for_rank e in omega arith;
  for_share = λ e. let x = h.for_share e in omega arith;
}

length-spots : (f : ℕ → ℕ) (i n : ℕ) → length (spots f i n) ≡ n
length-spots f i zero = refl
length-spots f i (suc n) = ap suc (length-spots f (suc i) n)

module _ (ts : List (List ℕ)) (s starts order runs name rank share : List ℕ) (n g m : ℕ) where
  -- the weights
  told_weighs : (looked : Bool) → LevelTold looked ts s starts order runs name rank share (suc n) g m → (i : ℕ) → i + n < m → weight_in order runs rank share g (suc n) i ≡ weight_of looked ts n i
  told_weighs true t i h = let r = t.ranked refl in let e = r.placed.many in level_weighs ts s starts order runs name rank share n g m r i (omega arith)
  told_weighs false t i h = let q = t.silent refl in let z = q.1 i in sym (weight-none order runs rank share g (suc n) i (omega arith) q.0)

  pub told-owns : (looked : Bool) → LevelTold looked ts s starts order runs name rank share (suc n) g m
      → weigh_owns (weight_in order runs rank share g (suc n)) n (sites_in starts m) ≡ weigh_owns (weight_of looked ts n) n (sites_in starts m)
  told-owns looked t =
      let l = length-spots (site_start starts) 0 m in
      weigh_alike (weight_in order runs rank share g (suc n)) (weight_of looked ts n) n (sites_in starts m) (λ j h. told_weighs looked t j (omega arith))

  -- the tables are there
  pub told_serves : (looked : Bool) → LevelTold looked ts s starts order runs name rank share n g m → TablesLong looked order runs rank share m → TablesServe order runs rank share g m
  told_serves true t h =
      let r = (t.ranked refl).ready in
      let f = r.few in
      let b = r.small in
      let x = h.for_order refl in
      let y = h.for_other refl in
      record { places = omega arith; starts = omega arith; few = omega arith; ranks = λ z. h.for_rank refl; shares = λ z. h.for_share refl }
  told_serves false t h =
      let e = (t.silent refl).0 in
      record { places = omega arith; starts = omega arith; few = omega arith; ranks = λ z. absurd (omega arith); shares = λ z. absurd (omega arith) }
