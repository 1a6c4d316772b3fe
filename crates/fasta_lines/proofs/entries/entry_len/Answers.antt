-- `entry_len` meets its contract: what was looked at and the entry of the rest are the whole; the byte before i is the last that was. Assumes
-- nothing.
use Prim.Native.Nat.{ℕ, ◌+◌, ◌-◌, ◌≤◌, ◌<◌}
use mathlib.Core.Path.{◌≡◌, sym, ◌∙◌}
use mathlib.Core.Bool.{false, ◌&&◌, and-false}
use mathlib.Core.List.{List}
use native.Mathlib.Omega.{arith}
use lib.ListN.{length, drop, get_or}
use lib.Dec.{eqb}
use borrow.Author.Tests.{ne_eqb}
use Rattle.fasta_lines.specs.Lines.{entry_length}
use Rattle.fasta_lines.specs.LineLaws.{entry-on, entry_found, entry_end}
use Rattle.fasta_lines.proofs.entries.entry_len.Goals.{else-s-i-eq62-via-then-s-i-eq62+else-s-i-eq10, else-s-i-eq62-via-else-s-i-eq62}
use Rattle.fasta_lines.proofs.entries.entry_len.Goals as goal

pub loop-i-init : goal.loop-i-init
loop-i-init c = (omega arith, omega arith, omega arith)

pub returns-then-s-i-eq10 : goal.returns-then-s-i-eq10
returns-then-s-i-eq10 c =
    let s = c.args.s.now in
    let l = c.loop-i in
    (sym (entry_found s l.i l.invariant.0 (omega arith) c.if-s-i-eq10.true c.if-s-i-eq62.true) ∙ l.invariant.2, omega arith)

-- a byte was passed by
passed : (s : List ℕ) (i : ℕ) → 1 ≤ i → i < length s → (eqb (get_or s (i - 1) 0) 10 && eqb (get_or s i 0) 62) ≡ false → i - 1 + entry_length (drop (i - 1) s) ≡ entry_length s
    → (1 ≤ i + 1) × (i + 1 - 1 ≤ length s) × (i + 1 - 1 + entry_length (drop (i + 1 - 1) s) ≡ entry_length s)
passed s i h l e inv = let f : i + 1 - 1 ≡ i = omega arith in rw f (omega arith, omega arith, entry-on s i h l e ∙ inv)

pub loop-i-preserved : goal.loop-i-preserved
loop-i-preserved c =
    let s = c.args.s.now in
    let l = c.loop-i in
    elim c.else-s-i-eq62.branch [
      | else-s-i-eq62-via-then-s-i-eq62+else-s-i-eq10 w ↦ passed s l.i l.invariant.0 (omega arith) (rw (ne_eqb (get_or s (l.i - 1) 0) 10 w.if-s-i-eq10.false)) l.invariant.2
      | else-s-i-eq62-via-else-s-i-eq62 w ↦ passed s l.i l.invariant.0 (omega arith) (rw (ne_eqb (get_or s l.i 0) 62 w.if-s-i-eq62.false) (and-false (eqb (get_or s (l.i - 1) 0) 10))) l.invariant.2
    ]

pub returns : goal.returns
returns c = let l = c.loop-i in (sym (entry_end c.args.s.now l.i l.invariant.0 (omega arith) l.invariant.1) ∙ l.invariant.2, omega arith)
