-- `list_starts` meets its contract: the first start, then the others. Assumes nothing.
use native.Mathlib.Omega.{arith}
use mathlib.Core.Path.{◌∙◌}
use Prim.Native.Nat.{◌≤◌}
use Rattle.enzyme_lengths.specs.StartLaws.{part-kept, part_full, starting_end}
use Rattle.enzyme_lengths.proofs.listing.list_starts.Goals.{After-position-position}
use Rattle.enzyme_lengths.proofs.listing.list_starts.Goals as goal

-- the second start is one of them, or they end with the first
within : (c : After-position-position) → (c.max-second.result ≤ c.args.to) × (c.args.from ≤ c.max-second.result)
within c = let e = c.max-second.ensures in (omega (arith, e, c.if-to-from.false), omega (arith, e))

pub returns-then-to-from : goal.returns-then-to-from
returns-then-to-from c = let a = c.args in
    (rw (starting_end a.len a.from a.to (omega arith)), c.requires.2)

pub returns-in_err-k : goal.returns-in_err-k
returns-in_err-k c = let a = c.args in
    let m = c.max-second in
    let x = c.list_placed in
    let w = within (goal.at.returns-in_err-k c).After-position-position in
    rw c.from_residual.ensures (part_full a.tables.now.letters.now a.protein a.len a.from m.result a.to a.count a.out.now x.new.out w.1 w.0 (rw c.in_err-k.was at x.ensures.0), x.ensures.1)

pub returns : goal.returns
returns c = let a = c.args in
    let m = c.max-second in
    let x = c.list_placed in
    let y = c.list_later.ensures in
    let w = within (goal.at.returns c).After-position-position in
    (y.0 ∙ part-kept a.tables.now.letters.now a.protein a.len a.from m.result a.to a.count a.out.now x.new.out w.1 w.0 c.in_ok-k.k (rw c.in_ok-k.was at x.ensures.0), y.1)
