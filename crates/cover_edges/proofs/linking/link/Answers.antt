-- `link` meets its contract. Assumes nothing.
use Prim.Native.Nat.{◌<◌}
use native.Mathlib.Omega.{arith}
use mathlib.Core.Path.{◌≡◌, refl, ◌∙◌}
use Rattle.cover_edges.specs.ChainLaws.{link_start, link_turn, link_rest}
use Rattle.cover_edges.proofs.linking.link.Goals as goal

pub loop-i-init : goal.loop-i-init
loop-i-init c =
    let a = c.args in
    (refl, link_start a.w.now a.edges.now.bytes.now a.f a.size a.h a.nx c.requires.by_index_2, λ j u v. refl)

pub link_one-requires : goal.link_one-requires
link_one-requires c =
    let lp = c.loop-i in
    let inside = c.requires.by_index lp.i (omega arith) in
    record {
      i_bound = (omega arith, omega arith);
      f_in_bounds = (omega (arith, inside, lp.invariant.0), omega (arith, lp.invariant.0));
    }

pub loop-i-preserved : goal.loop-i-preserved
loop-i-preserved c =
    let a = c.args in
    let lp = c.loop-i in
    let call = c.link_one in
    let more : lp.i < a.edges.now.count = omega arith in
    let inside = c.requires.by_index lp.i more in (
      call.auto.w ∙ lp.invariant.0,
      link_turn lp.w _ a.edges.now.bytes.now a.f lp.i a.edges.now.count a.size a.h a.nx lp.invariant.1 more c.requires.size_bound.0 (omega (arith, lp.invariant.0)) inside call.ensures,
      link_rest a.w.now lp.w _ a.edges.now.bytes.now a.f lp.i a.edges.now.count a.size a.h a.nx more inside call.ensures lp.invariant.2,
    )

pub returns : goal.returns
returns c =
    let a = c.args in
    let lp = c.loop-i in
    let z : lp.i ≡ a.edges.now.count = omega arith in
    record { chains = rw (← z) lp.invariant.1; by_index_3 = lp.invariant.2 }

pub shape_of-w : goal.shape_of-w
shape_of-w c = c.loop-i.invariant.0
