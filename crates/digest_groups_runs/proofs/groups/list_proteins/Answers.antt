-- `list_proteins` meets its contract. Assumes nothing.
use Prim.Native.Nat.{◌*◌}
use native.Mathlib.Omega.{arith}
use mathlib.Core.Path.{◌≡◌}
use lib.ListN.{length}
use Rattle.sorting_slices.specs.SortingLaws.{order-fitting}
use Rattle.digest_groups_runs.specs.TurnLaws.{listed_of}
use Rattle.digest_groups_runs.proofs.groups.list_proteins.Goals as goal

pub take_proteins-requires : goal.take_proteins-requires
take_proteins-requires c =
    let r = c.requires.2 in
    (c.requires.0, omega (arith, r.fits), λ i h k. omega (arith, r.numbers i h (omega arith), r.whole))

pub returns : goal.returns
returns c =
    let a = c.args in
    let p = c.requires in
    let t = c.take_proteins in
    let m = t.new.w in
    let s : length m ≡ length a.w.now = t.ensures.same_length in
    let f = order-fitting a.lo a.hi a.n (2 * a.n) (length m) p.0 p.1 (omega (arith, p.0, p.1)) (omega (arith, p.2.fits)) in
    rw (c.sort.ensures.1, f) (listed_of a.names.now a.digests.now a.w.now m a.lo a.hi a.n p.0 p.1 p.2.fits t.ensures)
