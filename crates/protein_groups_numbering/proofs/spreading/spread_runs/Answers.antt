-- `spread_runs` meets its contract. Assumes nothing.
use Prim.Native.Nat.{◌+◌}
use mathlib.Core.Path.{◌≡◌, sym, ◌∙◌}
use native.Mathlib.Omega.{arith}
use lib.ListN.{get_or}
use Rattle.protein_groups_numbering.specs.SpreadLaws.{spreading_none, spreading_skip, spreading_more, spreading_end, text-asked, read-run}
use Rattle.protein_groups_numbering.proofs.spreading.spread_runs.Goals.{Then-g-seen, then-g-seen, else-g-seen}
use Rattle.protein_groups_numbering.proofs.spreading.spread_runs.Goals as goal

pub loop-j-init : goal.loop-j-init
loop-j-init c = let s = c.args in spreading_none s.w.now s.plan s.t

pub overflow_add-g : goal.overflow_add-g
overflow_add-g c = let q = c.requires in omega (arith, q.ranks, q.keys, q.fits)

pub bounds-w-plan : goal.bounds-w-plan
bounds-w-plan c = let q = c.requires in omega (arith, q.ranks, q.keys, q.fits)

-- the thing at j leads a run
leads : (c : Then-g-seen) → get_or c.args.w.now (c.args.plan.runs + c.loop-j.j) 0 ≡ c.loop-j.seen
leads c =
    let s = c.args in let l = c.loop-j in
    sym (read-run s.w.now l.w s.plan s.t l.j l.seen l.k l.auto.w c.requires (omega arith) l.invariant) ∙ c.if-g-seen.true

pub spread_text-k-requires : goal.spread_text-k-requires
spread_text-k-requires c =
    let s = c.args in let l = c.loop-j in
    text-asked s.w.now l.w s.plan s.t l.j l.seen l.k l.auto.w c.requires (omega arith) l.invariant (leads (goal.at.spread_text-k-requires c).Then-g-seen)

pub overflow_add-k : goal.overflow_add-k
overflow_add-k c =
    let s = c.args in let l = c.loop-j in let q = c.requires in let d = c.spread_text-k in
    omega (arith, (spreading_more s.w.now l.w s.plan s.t l.j l.seen l.k l.auto.w q (omega arith) l.invariant (leads (goal.at.overflow_add-k c).Then-g-seen) d.new.w d.result d.auto.w d.ensures).few, q.keys, q.fits)

pub overflow_add-seen : goal.overflow_add-seen
overflow_add-seen c = omega (arith, c.requires.few, c.loop-j.invariant.count)

pub loop-j-preserved : goal.loop-j-preserved
loop-j-preserved c =
    let s = c.args in let l = c.loop-j in let q = c.requires in
    let e = read-run s.w.now l.w s.plan s.t l.j l.seen l.k l.auto.w q (omega arith) l.invariant in
    elim c.if-g-seen.branch [
      | then-g-seen w ↦
          let d = w.spread_text-k in
          rw (w.w-is, w.seen-is, w.k-is)
          (spreading_more s.w.now l.w s.plan s.t l.j l.seen l.k l.auto.w q (omega arith) l.invariant (sym e ∙ w.if-g-seen.true) d.new.w d.result d.auto.w d.ensures)
      | else-g-seen w ↦
          rw (w.w-is, w.seen-is, w.k-is) (spreading_skip s.w.now l.w s.plan s.t l.j l.seen l.k l.auto.w q (omega arith) l.invariant (rw e at w.if-g-seen.false))
    ]

pub returns : goal.returns
returns c = let s = c.args in let l = c.loop-j in spreading_end s.w.now l.w s.plan s.t l.j l.seen l.k c.requires (omega arith) l.invariant
