-- The parts of repeated windows need not be offered. Assumes nothing.
use Rattle.std.specs.Prelude.{ℕ, suc, ◌≤◌, ◌≡◌, true, length}
use Rattle.std.proofs.Common.{sym, ◌∙◌, arith}
use mathlib.Core.List.Sublistᴰ
use mathlib.Core.List.{List, [], foldl, Sublistᴰ}
use Rattle.enzyme_cuts.specs.declared.kinds.Knife.{Knife}
use Rattle.enzyme_cuts.specs.Cutting.{Range, set_sites, windows_from, kept}
use Rattle.enzyme_cuts.specs.Work.{RangesWithin}
use Rattle.enzyme_keep.specs.declared.offering.Terms.{Terms}
use Rattle.enzyme_keep.specs.Steps.{offers}
use Rattle.enzyme_windows.specs.Pieces.{pieces}
use Rattle.enzyme_windows.specs.PieceLaws.{end_to_end_pieces}
use Rattle.enzyme_windows.specs.SiteLaws.{non_empty}
use Rattle.enzyme_windows.proofs.FilledLaws.{sites-pieces}
use Rattle.enzyme_windows.specs.LookedLaws.{kept_after, kept-firsts}
use Rattle.enzyme_once.specs.Once.{each_once}
use Rattle.enzyme_once.specs.DistinctLaws.{NoRangeTwice, once-once}
use Rattle.enzyme_once.specs.RangeLaws.{once_inside}
use Rattle.enzyme_fresh.specs.Fresh.{fresh, Repeats}
use Rattle.enzyme_keep.specs.PutLaws.{kept-offers}
use Rattle.enzyme_fresh.proofs.KeptLaws.{placed-spots, fresh-same}
use Rattle.enzyme_fresh.specs.FewerLaws.{fewer_distinct, fewer_inside, from_fewer}

-- ---- what the numbers say

pub zero-repeats : (ts : List (List ℕ)) → Repeats ts (λ i. 0)
zero-repeats ts i n h l = absurd (omega arith)

-- ---- the ranges that are left

module _ (f : ℕ → ℕ) (k : Knife) (missed : ℕ) (s : List ℕ) where
  fresh_fewer : Sublistᴰ (fresh f k missed s) (each_once k true missed s)
  fresh_fewer =
      let rs = non_empty (set_sites k 0 0 s) in
      Sublistᴰ.append (Sublistᴰ.refl (windows_from 0 (suc missed) rs)) (from_fewer f (suc missed) 0 rs)

  pub fresh_inside : RangesWithin (length s) (fresh f k missed s)
  fresh_inside = fewer_inside (length s) fresh_fewer (once_inside k true missed s)

  pub fresh-once : NoRangeTwice (fresh f k missed s)
  fresh-once = fewer_distinct fresh_fewer (once-once k true missed s)

-- ---- the same digests

module _ (f : ℕ → ℕ) (k : Knife) (missed : ℕ) (s : List ℕ) (rep : Repeats (pieces k s) f) where
  fresh-firsts : (mn mx : ℕ) → kept_after s mn mx [] (each_once k true missed s) ≡ kept_after s mn mx [] (fresh f k missed s)
  fresh-firsts mn mx =
      let e = sites-pieces k s ∙ placed-spots (pieces k s) 0 (length (pieces k s)) (omega arith) in
      let a = once_inside k true missed s in
      rw e (fresh-same s mn mx (pieces k s) (end_to_end_pieces k s) f rep (suc missed) (rw e at a) [])

  pub fresh_keeps : (mn mx : ℕ) → foldl (kept s mn mx) [] (fresh f k missed s) ≡ foldl (kept s mn mx) [] (each_once k true missed s)
  fresh_keeps mn mx =
      kept-firsts s mn mx (fresh f k missed s) (fresh_inside f k missed s) ∙ sym (fresh-firsts mn mx) ∙ sym (kept-firsts s mn mx (each_once k true missed s) (once_inside k true missed s))

  -- the same records: as long as a record's numbers hold the ranges
  pub fresh-offers : length s ≤ 65536 → (t : Terms) (g : Range → ℕ) (out : List ℕ) → offers s t g (fresh f k missed s) 0 out ≡ offers s t g (each_once k true missed s) 0 out
  fresh-offers small t g out =
      kept-offers s t g small (fresh f k missed s) (each_once k true missed s) (fresh_inside f k missed s) (once_inside k true missed s) (fresh_keeps t.minimum t.maximum) out
