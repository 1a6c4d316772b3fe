-- `first_bad_mark` meets its contract. Assumes nothing.
use Rattle.std.proofs.Common.{rules, tests, arith, refl, ◌≡◌, ◌∙◌, ◌≤◌, ℕ, List, Bool, true, false, cond, length, ltb-false, Some, None}
use Rattle.std.proofs.Math.Dec.{ltb}
use Rattle.std.specs.List.{position_or_len}
use Rattle.std.specs.Option.{unwrap_or}
use Rattle.std.proofs.lemmas.Iterator.{YieldsList-from_slice}
use Rattle.std.proofs.lemmas.Iterator.Search.{position_from_yields_List}
use Rattle.std.proofs.lemmas.List.Sums.{position_or_len_is, prefix_len-le-length}
use Rattle.records.specs.Search.{seek}
use Rattle.records.specs.SearchLaws.{seek-to, seek_before, seek-passes}
use Rattle.cover_edges.specs.Edges.{bad_mark, first_bad_mark}
use Rattle.cover_edges.proofs.range.first_bad_mark.Goals as goal

-- the first mark above 1 is the one sought
found : (marks : List ℕ) → position_or_len (λ x. ltb 1 x) marks ≡ first_bad_mark marks
unfolding first_bad_mark
found marks =
    let n = length marks in
    position_or_len_is (λ x. ltb 1 x) marks (seek (bad_mark marks) 0 n) 0 (omega (arith, seek-to (bad_mark marks) 0 n)) (λ k h. seek_before (bad_mark marks) 0 n k (omega arith) h) (λ h. seek-passes (bad_mark marks) 0 n (omega arith))

or_length : (k n : ℕ) (b : Bool) → ltb k n ≡ b → k ≤ n → unwrap_or (cond b (Some k) None) n ≡ k
or_length k n true e h = refl
or_length k n false e h = omega (arith, ltb-false k n e)

pub returns : goal.returns
returns c =
    let marks = c.args.marks.now in
    let at : c.position.result ≡ _ = position_from_yields_List (λ x. ltb 1 x) _ _ c.position.result c.position.ensures.ran (YieldsList-from_slice marks cc) (λ x b q k. search (rules, tests)) in
    let k = position_or_len (λ x. ltb 1 x) marks in
    c.unwrap_or.ensures ∙ rw at (or_length k (length marks) _ refl (prefix_len-le-length _ marks)) ∙ found marks
