-- `join_edges` meets its contract. Assumes nothing.
use native.Mathlib.Omega.{arith}
use mathlib.Core.Path.{◌≡◌, refl, ◌∙◌}
use Rattle.cover_joining.specs.Joining.{nodes}
use Rattle.cover_joining.specs.JoiningLaws.{edges-start, edges-turn}
use Rattle.cover_joining.proofs.joining.join_edges.Goals as goal

pub loop-i-init : goal.loop-i-init
loop-i-init c = let a = c.args in (refl, edges-start a.groups a.edges.now.bytes.now a.w.now a.p (nodes a.groups a.metas) c.requires.forest)

pub join-requires : goal.join-requires
join-requires c =
    let lp = c.loop-i in
    let inside = c.requires.n_bound.3 lp.i (omega arith) in
    rw (c.group-g.ensures.0, c.meta-m.ensures.0) record { forest = lp.invariant.1.forest; x_lt_n = (omega (arith, inside), omega (arith, inside), omega arith) }

pub loop-i-preserved : goal.loop-i-preserved
loop-i-preserved c =
    let a = c.args in
    let lp = c.loop-i in
    let e = rw (c.group-g.ensures.0, c.meta-m.ensures.0) at c.join.ensures in
    (c.join.auto.w ∙ lp.invariant.0, edges-turn a.groups a.edges.now.bytes.now a.w.now lp.w c.join.new.w a.p (nodes a.groups a.metas) lp.i lp.invariant.1 e)

pub returns : goal.returns
returns c = let e : c.loop-i.i ≡ c.args.edges.now.count = omega arith in rw (← e) c.loop-i.invariant.1

pub shape_of-w : goal.shape_of-w
shape_of-w c = c.loop-i.invariant.0
