-- `gather_run` meets its contract. Assumes nothing.
use Prim.Native.Nat.{◌+◌, ◌-◌, ◌*◌}
use native.Mathlib.Omega.{arith}
use mathlib.Core.Path.{◌≡◌}
use lib.ListN.{get_or}
use Rattle.digest_groups_runs.specs.TurnLaws.{run_stops, first-whole, length-digest}
use Rattle.digest_groups_runs.proofs.groups.gather_run.Goals as goal

pub put_group-requires : goal.put_group-requires
put_group-requires c =
    let e = run_stops c.args.letters.now c.requires.1 c.requires.0 c.run_end-hi.ensures in
    let x = get_or c.args.w.now c.args.lo 0 in
    let n : 20 * x + 20 - 20 * x ≡ 20 = omega arith in
    (rw n (length-digest c.args.digests.now x (first-whole c.requires.1 c.requires.0).0), omega (arith, c.requires.1.few), omega (arith, c.requires.1.few, e.below))

pub list_proteins-requires : goal.list_proteins-requires
list_proteins-requires c =
    let e = run_stops c.args.letters.now c.requires.1 c.requires.0 c.run_end-hi.ensures in
    (e.above, e.below, c.requires.1)

pub returns : goal.returns
returns c =
    let x = get_or c.args.w.now c.args.lo 0 in
    let n : 20 * x + 20 - 20 * x ≡ 20 = omega arith in
    record {
      ends = (run_stops c.args.letters.now c.requires.1 c.requires.0 c.run_end-hi.ensures).is;
      group = rw n at c.put_group.ensures;
      list = c.list_proteins.ensures;
    }

pub overflow_cast-at : goal.overflow_cast-at
overflow_cast-at c = omega (arith, (first-whole c.requires.1 c.requires.0).1)

pub overflow_mul-at : goal.overflow_mul-at
overflow_mul-at c = omega (arith, (first-whole c.requires.1 c.requires.0).1)

pub overflow_add-at : goal.overflow_add-at
overflow_add-at c = omega (arith, (first-whole c.requires.1 c.requires.0).1)

pub slice_bounds-put_group-end : goal.slice_bounds-put_group-end
slice_bounds-put_group-end c = omega (arith, (first-whole c.requires.1 c.requires.0).0)

pub overflow_sub-hi : goal.overflow_sub-hi
overflow_sub-hi c = omega (arith, (run_stops c.args.letters.now c.requires.1 c.requires.0 c.run_end-hi.ensures).above)
