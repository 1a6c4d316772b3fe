-- `offer_semi` meets its contract: the windows, and behind them the parts. Assumes nothing.
use Prim.Native.Nat.{ℕ, suc, ◌≤◌}
use mathlib.Core.List.{List}
use native.Mathlib.Omega.{arith}
use lib.ListN.{length}
use lib.Dec.{leb}
use borrow.Author.Tests.{leb-true}
use Rattle.enzyme_cuts.specs.Cutting.{windows_from}
use Rattle.enzyme_windows.specs.Pieces.{pieces}
use Rattle.enzyme_windows.specs.SiteLaws.{pieces_few}
use Rattle.enzyme_levels.specs.FirstLaws.{pieces-placed}
use Rattle.enzyme_samples.specs.Ready.{loaded}
use Rattle.enzyme_samples.specs.ReadyLaws.{ready_first, offers_then}
use Rattle.enzyme_parts.specs.Walk.{sites_in}
use Rattle.enzyme_parts.specs.Weighed.{weigh_from}
use Rattle.enzyme_semi.specs.WeightLaws.{weight_of}
use Rattle.enzyme_semi.specs.SemiLaws.{semi_ready}
use Rattle.enzyme_sizes.specs.Told.{TablesLong}
use Rattle.enzyme_sizes.specs.ToldLaws.{long_same}
use Rattle.enzyme_halves.proofs.semis.offer_semi.Goals as goal

-- where there is a place for each site in one table, there is in all
long : (order other rank share : List ℕ) (m : ℕ) → length order ≤ length other → length order ≤ length rank → length order ≤ length share → TablesLong (leb m (length order)) order other rank share m
long order other rank share m a b d = record {
  for_order = λ e. leb-true m (length order) e;
  for_other = λ e. let x = leb-true m (length order) e in omega arith;
  for_rank = λ e. let x = leb-true m (length order) e in omega arith;
  for_share = λ e. let x = leb-true m (length order) e in omega arith;
}

pub begin-g-requires : goal.begin-g-requires
begin-g-requires c =
    let k = c.args.knife in
    let l = c.args.source.now.letters.now in
    let p = c.requires in
    let st = p.2 in
    (pieces-placed k l _ _ st.count st.room st.at, omega (arith, st.count, pieces_few k l, p.0), long c.args.order.now c.args.other.now c.args.rank.now c.args.share.now c.args.m p.4 p.6 p.7, λ e. let x = leb-true c.args.m (length c.args.order.now) e in omega (arith, x, p.5), p.8)

pub offer_all_windows-at-requires : goal.offer_all_windows-at-requires
offer_all_windows-at-requires c =
    let a = c.args in
    let p = c.requires in
    let looked = leb a.m (length a.order.now) in
    let rs = sites_in a.starts.now a.m in (
      p.2.room,
      omega (arith, p.1),
      rw c.start_run-run.ensures (ready_first (loaded 1 (windows_from 0 (suc a.missed) rs)) (weigh_from (weight_of looked (pieces a.knife a.source.now.letters.now)) 0 (suc a.missed) rs)
          (semi_ready looked a.knife a.missed a.source.now.letters.now a.starts.now a.m p.2 a.source.now.far.now a.out.now a.marks.now p.0 p.3)),
    )

pub offer_sizes-requires : goal.offer_sizes-requires
offer_sizes-requires c =
    let a = c.args in
    let p = c.requires in
    let looked = leb a.m (length a.order.now) in
    let rs = sites_in a.starts.now a.m in (
      p.2.room,
      p.1,
      long_same (long a.order.now a.other.now a.rank.now a.share.now a.m p.4 p.6 p.7) (omega (arith, c.order-1)) (omega (arith, c.other-1)) (omega (arith, c.rank-1)) (omega (arith, c.share-1)),
      c.begin-g.ensures,
      (rw c.start_run-run.ensures at c.offer_all_windows-at.ensures).next (weigh_from (weight_of looked (pieces a.knife a.source.now.letters.now)) 0 (suc a.missed) rs)
          (semi_ready looked a.knife a.missed a.source.now.letters.now a.starts.now a.m p.2 a.source.now.far.now a.out.now a.marks.now p.0 p.3),
    )

pub returns : goal.returns
returns c =
    let a = c.args in
    let looked = leb a.m (length a.order.now) in
    let rs = sites_in a.starts.now a.m in
    (looked, offers_then {xs = loaded 1 (windows_from 0 (suc a.missed) rs)} {ys = weigh_from (weight_of looked (pieces a.knife a.source.now.letters.now)) 0 (suc a.missed) rs} (rw c.start_run-run.ensures at c.offer_all_windows-at.ensures) c.offer_sizes.ensures)
