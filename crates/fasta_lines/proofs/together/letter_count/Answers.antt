-- `letter_count` meets its contract: what was counted and what the rest holds are all. Assumes nothing.
use Prim.Native.Nat.{◌+◌}
use mathlib.Core.Path.{◌≡◌, ap}
use mathlib.Core.Bool.{true, false}
use native.Mathlib.Omega.{arith}
use lib.ListN.{length, get_or}
use Rattle.fasta_lines.specs.Lines.{line_end}
use Rattle.fasta_lines.specs.LineLaws.{together_skip, together-take, together_end}
use Rattle.fasta_lines.proofs.together.letter_count.Goals.{then-not-line_end, else-not-line_end}
use Rattle.fasta_lines.proofs.together.letter_count.Goals as goal

pub loop-i-preserved : goal.loop-i-preserved
loop-i-preserved c =
    let s = c.args.s.now in
    let i = c.loop-i.i in
    elim c.if-not-line_end.branch [
      | then-not-line_end w ↦ let e : line_end (get_or s i 0) (get_or s (i + 1) 0) ≡ false = cc in (omega arith, omega (arith, ap length (together-take s i (omega arith) e)))
      | else-not-line_end w ↦ let e : line_end (get_or s i 0) (get_or s (i + 1) 0) ≡ true = cc in (omega arith, omega (arith, ap length (together_skip s i (omega arith) e)))
    ]

pub returns : goal.returns
returns c = omega (arith, ap length (together_end c.args.s.now c.loop-i.i c.loop-i-test.false))
