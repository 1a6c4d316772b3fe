-- `walk` meets its contract: what the rest of the list comes to, the whole comes to. Assumes nothing.
use native.Mathlib.Omega.{arith}
use Prim.Native.Nat.{◌-◌, ◌<◌}
use mathlib.Core.Path.{◌≡◌, sym, ◌∙◌}
use lib.ListN.{get_or}
use Rattle.enzyme_cuts.specs.Cutting.{site, part}
use Rattle.enzyme_keep.specs.Buffer.{ranges_in, links_in}
use Rattle.enzyme_keep.specs.BufferLaws.{length_links}
use Rattle.enzyme_list.specs.declared.walk.Place.TheVariants.{Same, Behind}
use Rattle.enzyme_list.specs.ChainLaws.{next_link, ends_within, ends_on, ends_less, found_from-on, found_from-same, found_from_stop, found_from_end}
use Rattle.enzyme_list.proofs.walk.walk.Goals.{After-behind-t, In-loop-t}
use Rattle.enzyme_list.proofs.walk.walk.Goals as goal

-- the record that the list has come to is one of the first count
place : (c : In-loop-t) → c.loop-t.t - 1 < c.args.count
place c = let a = c.args in
    let h = ends_within (links_in a.count a.out.now) a.count c.loop-t.t (omega arith) c.loop-t.invariant.0 in
    omega (arith, length_links a.count a.out.now)

-- the record behind it
next : (c : After-behind-t) → c.behind-t.result ≡ get_or (links_in c.args.count c.args.out.now) (c.loop-t.t - 1) 0
next c = let a = c.args in c.behind-t.ensures ∙ next_link (links_in a.count a.out.now) 0 c.loop-t.t (λ e. omega arith)

pub loop-t-init : goal.loop-t-init
loop-t-init c = (c.requires.4, λ r x. x)

pub order_at-requires : goal.order_at-requires
order_at-requires c = let p = c.requires in
    (p.0, p.1, place (goal.at.order_at-requires c).In-loop-t, p.2, p.3)

pub returns-in-Equal : goal.returns-in-Equal
returns-in-Equal c = let a = c.args in
    let l = c.loop-t in
    l.invariant.1 (Same l.t) (found_from-same a.letters.now (ranges_in a.count a.out.now) (links_in a.count a.out.now) (part a.letters.now (site a.a a.e)) l.last l.t (omega arith) (sym c.order_at.ensures ∙ c.in-Equal.is))

pub returns-in-Greater : goal.returns-in-Greater
returns-in-Greater c = let a = c.args in
    let l = c.loop-t in
    l.invariant.1 (Behind l.last) (found_from_stop a.letters.now (ranges_in a.count a.out.now) (links_in a.count a.out.now) (part a.letters.now (site a.a a.e)) l.last l.t (omega arith) (sym c.order_at.ensures ∙ c.in-Greater.is))

pub behind-t-requires : goal.behind-t-requires
behind-t-requires c = let p = c.requires in
    let h = place (goal.at.behind-t-requires c).In-loop-t in
    (p.0, omega arith)

pub loop-t-smaller : goal.loop-t-smaller
loop-t-smaller c = let a = c.args in
    let l = c.loop-t in
    rw (next (goal.at.loop-t-smaller c).After-behind-t) (ends_less (links_in a.count a.out.now) a.count l.t (omega arith) l.invariant.0)

pub loop-t-preserved : goal.loop-t-preserved
loop-t-preserved c = let a = c.args in
    let l = c.loop-t in (
      rw (next (goal.at.loop-t-preserved c).After-behind-t) (ends_on (links_in a.count a.out.now) a.count l.t (omega arith) l.invariant.0),
      λ r x. l.invariant.1 r (found_from-on a.letters.now (ranges_in a.count a.out.now) (links_in a.count a.out.now) (part a.letters.now (site a.a a.e)) l.last l.t r (omega arith) (sym c.order_at.ensures ∙ c.in-Less.is) (rw (next (goal.at.loop-t-preserved c).After-behind-t) at x)),
    )

pub returns : goal.returns
returns c = let a = c.args in
    let l = c.loop-t in
    let z : l.t ≡ 0 = omega arith in
    l.invariant.1 (Behind l.last) (rw z (found_from_end a.letters.now (ranges_in a.count a.out.now) (links_in a.count a.out.now) (part a.letters.now (site a.a a.e)) l.last))
