-- `sum` meets its contract. The invariant: what is left of the letters, added to the sum so far, gives the answer. Assumes
-- nothing.
use Rattle.std.proofs.Common.{◌≤◌, refl, sym, ◌∙◌, arith}
use Rattle.peptide_mass.specs.MassLaws.{add-on, add_end}
use Rattle.peptide_mass.proofs.mass.sum.Goals.{After-capital}
use Rattle.peptide_mass.proofs.mass.sum.Goals as goal

-- the letter's place among the masses
near : (c : After-capital) → (65 ≤ c.capital.result) × (c.capital.result ≤ 90)
near c = rw c.capital.ensures (c.requires.by_index c.loop-b.b-index c.loop-b-test.true)

pub loop-b-init : goal.loop-b-init
loop-b-init c = refl

pub bounds-masses-k : goal.bounds-masses-k
bounds-masses-k c =
    let n = near (goal.at.bounds-masses-k c).After-capital in
    omega (arith, n.0, n.1, c.requires.masses_len, c.from-k.ensures)

pub overflow_sub-capital : goal.overflow_sub-capital
overflow_sub-capital c = (near (goal.at.overflow_sub-capital c).After-capital).0

pub loop-b-preserved : goal.loop-b-preserved
loop-b-preserved c =
    let a = c.args in
    let l = c.loop-b in
    rw (c.from-k.ensures, c.capital.ensures) (add-on a.masses.now l.mass a.letters.now l.b-index c.loop-b-test.true) ∙ l.invariant

pub returns : goal.returns
returns c =
    let a = c.args in
    let l = c.loop-b in
    sym (add_end a.masses.now l.mass a.letters.now l.b-index c.loop-b-test.false) ∙ l.invariant
