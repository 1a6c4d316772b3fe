-- `list_levels` meets its contract: the sizes ahead give the whole, and the next size is ranked. Assumes nothing.
use native.Mathlib.Omega.{arith}
use mathlib.Core.Path.{◌≡◌, refl, ◌∙◌}
use Prim.Native.Nat.{suc, ◌+◌, ◌-◌, ◌≤◌}
use lib.ListN.{length}
use Rattle.enzyme_windows.specs.Pieces.{pieces}
use Rattle.enzyme_picks.specs.PickLaws.{sizes-kept, sizes_full, sizes-last}
use Rattle.enzyme_set.specs.ListLaws.{level_listed, level_ready}
use Rattle.enzyme_set.proofs.windows.list_levels.Invariants.{weights}
use Rattle.enzyme_picks.specs.Picks.{StartsRise}
use Rattle.enzyme_set.proofs.windows.list_levels.Goals.{In-loop-over, After-loop-over}
use Rattle.enzyme_set.proofs.windows.list_levels.Goals as goal

pub loop-over-init : goal.loop-over-init
loop-over-init c = let z : suc c.args.missed - 0 ≡ suc c.args.missed = omega arith in (refl, refl, refl, refl, refl, λ ts lr. (lr, rw z))

-- what is asked of the tables of a level
ready : (c : In-loop-over) → let a = c.args in let l = c.loop-over in
    (l.over ≤ 16) × (l.g ≤ 65536) × (l.g ≤ length l.order) × (l.g ≤ length l.other) × (a.m ≤ length l.rank) × (a.m ≤ length l.share) × StartsRise a.starts.now a.m
ready c =
    let a = c.args in
    let p = c.requires in
    let l = c.loop-over in
    let q = l.invariant.5 (pieces a.knife a.letters.now) p.2 in
    level_ready a.knife a.letters.now a.starts.now l.order l.other a.name.now l.rank l.share l.over l.g a.m q.0 p.0 (omega arith) (omega (arith, p.3, l.invariant.0)) (omega (arith, p.4, l.invariant.1)) (omega (arith, p.5, l.invariant.2)) (omega (arith, p.6, l.invariant.3))

pub invariant_of-level : goal.invariant_of-level
invariant_of-level c = let r = ready (goal.at.invariant_of-level c).In-loop-over in record { places = r.2; starts = r.3; few = r.1 }

pub list_size-requires : goal.list_size-requires
list_size-requires c = let r = ready (goal.at.list_size-requires c).In-loop-over in (r.0, r.4, r.5, r.6)

pub returns-in_err-k : goal.returns-in_err-k
returns-in_err-k c =
    let a = c.args in
    let p = c.requires in
    let l = c.loop-over in
    let u = c.list_size in
    let s = a.letters.now in
    let ts = pieces a.knife s in
    let q = l.invariant.5 ts p.2 in
    rw c.from_residual.ensures (sizes_full (length s) a.terms.protein a.starts.now (weights ts) a.terms.minimum a.terms.maximum a.m l.over a.missed l.k l.out q.1 (omega arith) u.new.out
    (rw c.in_err-k.was at u.ensures ∙ level_listed ts s a.starts.now l.order l.other a.name.now l.rank l.share l.over l.g a.m q.0 (length s) a.terms.protein a.terms.minimum a.terms.maximum l.k l.out))

pub next_level-g-requires : goal.next_level-g-requires
next_level-g-requires c =
    let a = c.args in
    let p = c.requires in
    let l = c.loop-over in
    let ts = pieces a.knife a.letters.now in
    let q = l.invariant.5 ts p.2 in
    let z : c.from-sites.result + 1 ≡ suc l.over = omega arith in
    ((ts, rw z q.0), omega arith, omega (arith, p.3, l.invariant.0), omega (arith, p.4, l.invariant.1), omega (arith, p.5, l.invariant.2), omega (arith, p.6, l.invariant.3))

pub loop-over-preserved : goal.loop-over-preserved
loop-over-preserved c =
    let a = c.args in
    let l = c.loop-over in
    let u = c.list_size in
    let v = c.next_level-g in
    let s = a.letters.now in
    let z : c.from-sites.result + 1 ≡ suc l.over = omega arith in
    let y : c.from-sites.result + 1 + 1 ≡ suc (l.over + 1) = omega arith in (
      v.auto.order ∙ l.invariant.0,
      v.auto.other ∙ l.invariant.1,
      v.auto.rank ∙ l.invariant.2,
      v.auto.share ∙ l.invariant.3,
      omega (arith, u.auto.out, l.invariant.4),
      λ ts lr.
          let q = l.invariant.5 ts lr in (
            rw y at (v.ensures ts (rw z q.0)),
            sizes-kept (length s) a.terms.protein a.starts.now (weights ts) a.terms.minimum a.terms.maximum a.m l.over a.missed l.k l.out q.1 (omega arith) u.new.out c.in_ok-k.k
                (rw c.in_ok-k.was at u.ensures ∙ level_listed ts s a.starts.now l.order l.other a.name.now l.rank l.share l.over l.g a.m q.0 (length s) a.terms.protein a.terms.minimum a.terms.maximum l.k l.out),
          ),
    )

ready_last : (c : After-loop-over) → let a = c.args in let l = c.loop-over in
    (a.missed ≤ 16) × (l.g ≤ 65536) × (l.g ≤ length l.order) × (l.g ≤ length l.other) × (a.m ≤ length l.rank) × (a.m ≤ length l.share) × StartsRise a.starts.now a.m
ready_last c =
    let a = c.args in
    let p = c.requires in
    let l = c.loop-over in
    let e : l.over ≡ a.missed = omega arith in
    let q = l.invariant.5 (pieces a.knife a.letters.now) p.2 in
    level_ready a.knife a.letters.now a.starts.now l.order l.other a.name.now l.rank l.share a.missed l.g a.m (rw e at q.0) p.0 p.1 (omega (arith, p.3, l.invariant.0)) (omega (arith, p.4, l.invariant.1)) (omega (arith, p.5, l.invariant.2)) (omega (arith, p.6, l.invariant.3))

pub invariant_of-level-2 : goal.invariant_of-level-2
invariant_of-level-2 c = let r = ready_last (goal.at.invariant_of-level-2 c).After-loop-over in record { places = r.2; starts = r.3; few = r.1 }

pub list_size-requires-2 : goal.list_size-requires-2
list_size-requires-2 c = let r = ready_last (goal.at.list_size-requires-2 c).After-loop-over in (r.0, r.4, r.5, r.6)

pub returns : goal.returns
returns c =
    let a = c.args in
    let p = c.requires in
    let l = c.loop-over in
    let u = c.list_size-2 in
    let s = a.letters.now in
    let ts = pieces a.knife s in
    let e : a.missed ≡ l.over = omega arith in
    let q = l.invariant.5 ts p.2 in
    sizes-last (length s) a.terms.protein a.starts.now (weights ts) a.terms.minimum a.terms.maximum a.m l.over a.missed l.k l.out q.1 (omega arith) u.result u.new.out
    (rw e at u.ensures ∙ level_listed ts s a.starts.now l.order l.other a.name.now l.rank l.share l.over l.g a.m q.0 (length s) a.terms.protein a.terms.minimum a.terms.maximum l.k l.out)
