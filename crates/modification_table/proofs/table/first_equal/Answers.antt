-- `first_equal` meets its contract. Assumes nothing.
use mathlib.Core.Path.{◌≡◌, ◌∙◌}
use mathlib.Core.Bool.{◌&&◌}
use native.Mathlib.Omega.{arith}
use lib.Dec.{eqb}
use Rattle.records.specs.SeekingLaws.{seeking_all, seeking_stop, seeking_on, seeking_end}
use Rattle.modification_table.specs.Tables.{equal_entry, first_equal}
use Rattle.modification_table.proofs.table.first_equal.Goals.{After-u32_at-in-loop-i}
use Rattle.modification_table.proofs.table.first_equal.Goals as goal

pub loop-i-init : goal.loop-i-init
unfolding first_equal
loop-i-init c = seeking_all

-- what was tested is whether record i is equal
tested : (c : After-u32_at-in-loop-i) → let a = c.args in
    equal_entry a.table.now a.entry.mass a.entry.name c.loop-i.i ≡ (c.same_mass.result && eqb c.u32_at-in-loop-i.result a.entry.name)
tested c = rw (c.same_mass.ensures, c.u32_at.ensures, c.u32_at-in-loop-i.ensures)

pub returns-then-same_mass-u32_at : goal.returns-then-same_mass-u32_at
returns-then-same_mass-u32_at c = seeking_stop c.loop-i.invariant (omega arith) (tested (goal.at.returns-then-same_mass-u32_at c).After-u32_at-in-loop-i ∙ c.if-same_mass-u32_at.true)

pub loop-i-preserved : goal.loop-i-preserved
loop-i-preserved c = seeking_on c.loop-i.invariant (omega arith) (tested (goal.at.loop-i-preserved c).After-u32_at-in-loop-i ∙ c.if-same_mass-u32_at.false)

pub returns : goal.returns
returns c = let e = seeking_end c.loop-i.invariant (omega arith) in omega arith
