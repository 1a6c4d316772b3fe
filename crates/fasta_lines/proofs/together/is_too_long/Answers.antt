-- `is_too_long` meets its contract. Assumes nothing.
use mathlib.Core.Path.{sym, ap}
use native.Mathlib.Omega.{arith}
use lib.ListN.{length}
use lib.Dec.{ltb}
use borrow.Author.Tests.{le-ltb}
use Rattle.fasta_lines.specs.Lines.{together}
use Rattle.fasta_lines.specs.LineLaws.{length-together}
use Rattle.fasta_lines.proofs.together.is_too_long.Goals as goal

pub returns-then-s-le65536 : goal.returns-then-s-le65536
returns-then-s-le65536 c = let s = c.args.s.now in sym (le-ltb 65536 (length (together s)) (omega (arith, length-together s, c.if-s-le65536.true)))

pub returns : goal.returns
returns c = ap (ltb 65536) c.letter_count.ensures
