-- `copy_raised` meets its contract: the first i places hold capitals. Assumes nothing.
use Prim.Native.Nat.{ℕ}
use mathlib.Core.Path.{◌∙◌}
use native.Mathlib.Omega.{arith}
use lib.ListN.{length, get_or}
use lib.Seq.{get_or-take, length-take-le}
use Rattle.lists.specs.FrameLaws.{set_more}
use Rattle.letters.specs.Letters.{capital}
use Rattle.letters.specs.CapitalLaws.{capitals_is}
use Rattle.enzyme_ways.proofs.reading.copy_raised.Goals as goal

pub loop-i-preserved : goal.loop-i-preserved
loop-i-preserved c =
    let l = c.loop-i in
    set_more (λ (j : ℕ). capital (get_or c.args.letters.now j 0)) l.table l.i c.capital.result (omega arith) c.capital.ensures l.invariant

pub returns : goal.returns
returns c =
    let s = c.args.letters.now in
    let l = c.loop-i in
    capitals_is s _ (length-take-le (length s) l.table (omega arith)) (λ j h. get_or-take (length s) l.table j 0 h ∙ l.invariant j (omega arith))
