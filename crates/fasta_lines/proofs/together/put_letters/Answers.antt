-- `put_letters` meets its contract: what is still to be stored from k on gives the whole. Assumes nothing.
use Prim.Native.Nat.{ℕ, ◌+◌, ◌-◌, ◌%◌}
use mathlib.Core.Path.{◌≡◌, refl, sym, ap, ◌∙◌}
use mathlib.Core.List.{List}
use native.Mathlib.Omega.{arith}
use lib.ListN.{length, drop, get_or, set}
use lib.Seq.{sets}
use Rattle.letters.specs.Letters.{capitals}
use Rattle.fasta_lines.specs.Lines.{together}
use Rattle.fasta_lines.specs.LineLaws.{together_skip, together-take, together_end, high_taken, low_skipped, high_raised, letter_stored}
use Rattle.fasta_lines.proofs.together.put_letters.Goals.{then-b-gt64, else-b-gt64}
use Rattle.fasta_lines.proofs.together.put_letters.Goals as goal

pub loop-b-init : goal.loop-b-init
loop-b-init c = (omega arith, refl, omega arith)

pub loop-b-preserved : goal.loop-b-preserved
loop-b-preserved c =
    let s = c.args.s.now in
    let l = c.loop-b in
    let i = l.b-index in
    let b = get_or s i 0 in
    elim c.if-b-gt64.branch [
      | then-b-gt64 w ↦
          let e = high_taken s i c.requires (omega arith) w.if-b-gt64.true in
          let f : w.put_byte.new.out ≡ set l.out l.k (65 + (b - 65) % 32) = cc in
          let g = high_raised s i c.requires (omega arith) w.if-b-gt64.true in (
            omega arith,
            rw (w.out-is, w.k-is) (ap (λ (z : List ℕ). sets z (l.k + 1) (capitals (together (drop (i + 1) s)))) (f ∙ ap (set l.out l.k) g) ∙ letter_stored l.out l.k s i (omega arith) e ∙ l.invariant.1),
            omega (arith, ap length (together-take s i (omega arith) e)),
          )
      | else-b-gt64 w ↦
          let e = together_skip s i (omega arith) (low_skipped s i c.requires (omega arith) w.if-b-gt64.false) in
          (omega arith, rw (w.out-is, w.k-is) (ap (λ (t : List ℕ). sets l.out l.k (capitals t)) (sym e) ∙ l.invariant.1), omega (arith, ap length e))
    ]

pub returns : goal.returns
returns c =
    let l = c.loop-b in
    let e = together_end c.args.s.now l.b-index c.loop-b-test.false in
    (omega (arith, ap length e), ap (λ (t : List ℕ). sets l.out l.k (capitals t)) (sym e) ∙ l.invariant.1)
