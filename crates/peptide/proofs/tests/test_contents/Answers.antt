-- `test_contents` meets its contract. Assumes nothing.
use Prim.Native.Nat.{ℕ, ◌-◌}
use mathlib.Core.Path.{◌≡◌, sym, ap, ◌∙◌}
use native.Mathlib.Omega.{arith}
use lib.ListN.{length, take}
use Rattle.letters.specs.Letters.{first_bad}
use Rattle.peptide.specs.Peptides.{residues_of}
use Rattle.peptide.specs.PeptideLaws.{contents_letter, contents-clear, contents-field}
use Rattle.std.proofs.Common.{rules}
use Rattle.peptide.proofs.tests.test_contents.Goals.{After-first_bad-bad}
use Rattle.peptide.proofs.tests.test_contents.Goals as goal

pub slice_bounds-first_bad-end : goal.slice_bounds-first_bad-end
slice_bounds-first_bad-end c = let n : length c.args.p.letters ≡ 64 = search rules in omega (arith, c.requires)

-- the place that was found is that of the peptide's letters
found : (c : After-first_bad-bad) → c.first_bad-bad.result ≡ first_bad (residues_of c.args.p)
found c =
    let p = c.args.p in
    let z : c.from-n.result - 0 ≡ p.len = omega arith in
    c.first_bad-bad.ensures ∙ ap (λ (k : ℕ). first_bad (take k p.letters)) z

pub returns-then-bad-n : goal.returns-then-bad-n
returns-then-bad-n c = contents_letter c.args.p c.first_bad-bad.result (found (goal.at.returns-then-bad-n c).After-first_bad-bad) (omega (arith, c.if-bad-n.true, c.from-n.ensures))

pub returns-then-is_clear : goal.returns-then-is_clear
returns-then-is_clear c =
    contents-clear c.args.p c.first_bad-bad.result (found (goal.at.returns-then-is_clear c).After-first_bad-bad) (omega (arith, c.if-bad-n.false, c.from-n.ensures)) (sym c.is_clear.ensures ∙ c.if-is_clear.true)

pub returns-else-is_clear : goal.returns-else-is_clear
returns-else-is_clear c =
    contents-field c.args.p c.first_bad-bad.result (found (goal.at.returns-else-is_clear c).After-first_bad-bad) (omega (arith, c.if-bad-n.false, c.from-n.ensures)) (sym c.is_clear.ensures ∙ c.if-is_clear.false)
