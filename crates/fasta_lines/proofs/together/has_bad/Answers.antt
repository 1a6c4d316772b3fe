-- `has_bad` meets its contract: what was found and what the rest holds are all. Assumes nothing.
use Prim.Native.Nat.{ℕ, ◌+◌, ◌-◌}
use mathlib.Core.Path.{◌≡◌, refl, sym, ap, ◌∙◌}
use mathlib.Core.Bool.{Bool, not, ◌||◌}
use native.Mathlib.Omega.{arith}
use lib.ListN.{length, drop, get_or}
use borrow.Author.Tests.{le-ltb, eq-eqb, eqb-true}
use Rattle.std.proofs.lemmas.Bool.{false≢true}
use Rattle.fasta_lines.specs.declared.runs.Run.TheVariants.{Letters}
use Rattle.fasta_lines.specs.Lines.{goes_on, run_of}
use Rattle.fasta_lines.specs.LineLaws.{some_bad, bad_on, bad_end}
use Rattle.fasta_lines.proofs.together.has_bad.Goals as goal

pub returns-then-is_empty : goal.returns-then-is_empty
returns-then-is_empty c =
    let s = c.args.s.now in
    let e = eqb-true _ _ (sym c.is_empty.ensures ∙ c.if-is_empty.true) in
    sym (le-ltb (run_of Letters s) (length s) (omega arith))

pub loop-i-init : goal.loop-i-init
loop-i-init c =
    let some : length c.args.s.now ≡ 0 → ⊥ = λ e. false≢true (sym c.if-is_empty.false ∙ c.is_empty.ensures ∙ eq-eqb _ _ e) in
    (omega arith, refl)

pub loop-i-preserved : goal.loop-i-preserved
loop-i-preserved c =
    let s = c.args.s.now in
    let l = c.loop-i in
    (l.invariant.0, ap (λ (t : Bool). (l.found || not t) || some_bad (drop (l.i + 1) s)) c.goes_on.ensures ∙ bad_on s l.i l.found (omega (arith, l.invariant.0)) l.invariant.1)

pub returns : goal.returns
returns c =
    let s = c.args.s.now in
    let l = c.loop-i in
    let e : length s - 1 ≡ l.i = omega arith in
    ap (λ (t : Bool). l.found || not t) (c.goes_on-2.ensures ∙ ap (λ (z : ℕ). goes_on Letters (get_or s z 0) 0) e) ∙ bad_end s l.i l.found (omega (arith, l.invariant.0)) l.invariant.1
