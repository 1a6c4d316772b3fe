-- The places in the table of starts: they begin at 0, rise, and end behind the last letter. Assumes nothing.
use Rattle.std.specs.Prelude.{ℕ, zero, suc, ◌+◌, ◌-◌, ◌≤◌, ◌<◌, ◌≡◌, List, length}
use Rattle.std.proofs.Common.{ap, ◌∙◌, arith}
use Rattle.std.proofs.Math.Seq.{take-length}
use Rattle.enzyme_cuts.specs.declared.kinds.Knife.{Knife}
use Rattle.enzyme_windows.specs.Pieces.{pieces, end_to_end}
use Rattle.enzyme_windows.specs.PieceLaws.{end_to_end_pieces}
use Rattle.enzyme_windows.specs.SiteLaws.{pieces-filled, none-empty-at}
use Rattle.enzyme_windows.specs.StartLaws.{piece_start, start-next}

module _ (k : Knife) (s : List ℕ) where
  -- a site is not empty
  pub start_less : (i : ℕ) → i < length (pieces k s) → piece_start (pieces k s) i < piece_start (pieces k s) (suc i)
  start_less i h =
      let a = start-next (pieces k s) i h in
      let b = none-empty-at (pieces k s) i (pieces-filled k s) h in
      omega arith

  pub start_rises : (i n : ℕ) → i + n ≤ length (pieces k s) → piece_start (pieces k s) i + n ≤ piece_start (pieces k s) (i + n)
  start_rises i zero h = let e : i + 0 ≡ i = omega arith in rw e (omega arith)
  start_rises i (suc n) h =
      let e : i + suc n ≡ suc (i + n) = omega arith in
      let a = start_rises i n (omega arith) in
      let b = start_less (i + n) (omega arith) in
      rw e (omega arith)

  -- the last one ends behind the last letter
  pub start-last : piece_start (pieces k s) (length (pieces k s)) ≡ length s
  start-last = ap (λ (ts : List (List ℕ)). length (end_to_end ts)) (take-length (pieces k s)) ∙ ap length (end_to_end_pieces k s)

  pub start-within : (i : ℕ) → i ≤ length (pieces k s) → piece_start (pieces k s) i ≤ length s
  start-within i h =
      let e : i + (length (pieces k s) - i) ≡ length (pieces k s) = omega arith in
      let a : piece_start (pieces k s) i + (length (pieces k s) - i) ≤ piece_start (pieces k s) (length (pieces k s)) = rw e at (start_rises i (length (pieces k s) - i) (omega arith)) in
      omega (arith, start-last)
