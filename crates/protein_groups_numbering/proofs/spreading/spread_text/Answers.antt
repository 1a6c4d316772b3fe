-- `spread_text` meets its contract. Assumes nothing.
use Prim.Native.Nat.{◌+◌}
use mathlib.Core.Path.{◌≡◌, refl}
use native.Mathlib.Omega.{arith}
use lib.ListN.{get_or}
use Rattle.protein_groups_numbering.specs.SpreadLaws.{low_at, high_at}
use Rattle.protein_groups_numbering.proofs.spreading.spread_text.Goals.{After-wide-hi}
use Rattle.protein_groups_numbering.proofs.spreading.spread_text.Goals as goal

-- what is read: where the text begins and ends
read : (c : After-wide-hi)
    → (c.wide-lo.result ≡ low_at c.args.plan c.args.w.now c.args.j)
    × (c.wide-hi.result ≡ high_at c.args.plan c.args.w.now c.args.j)
read c =
    let a = c.args in
    let x : c.wide-x.result ≡ get_or a.w.now (a.plan.things + a.j) 0 = c.wide-x.ensures.0 in
    (rw x at c.wide-lo.ensures.0, rw x at c.wide-hi.ensures.0)

pub overflow_sub-len : goal.overflow_sub-len
overflow_sub-len c = rw ((read (goal.at.overflow_sub-len c).After-wide-hi).0, (read (goal.at.overflow_sub-len c).After-wide-hi).1) c.requires.rises

pub copy_run-requires : goal.copy_run-requires
copy_run-requires c = let r = read (goal.at.copy_run-requires c).After-wide-hi in let q = c.requires in rw (r.0, r.1) (omega (arith, q.rises, q.ends), omega (arith, q.keys), omega (arith, q.fits))

pub returns : goal.returns
returns c = let r = read (goal.at.returns c).After-wide-hi in rw (r.0, r.1) (record { size = refl; copied = rw (r.0, r.1) at c.copy_run.ensures })
