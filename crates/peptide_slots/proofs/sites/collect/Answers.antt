-- `collect` meets its contract. The invariant: the sites of the rules below r are written, those of the others are left.
-- Assumes nothing.
use Rattle.std.proofs.Common.{◌/◌, length, refl, arith}
use Rattle.peptide_slots.specs.SiteLaws.{sites-written-all, sites-written-more, sites-written-none}
use Rattle.peptide_slots.proofs.sites.collect.Goals as goal

pub loop-r-init : goal.loop-r-init
loop-r-init c = sites-written-none _ _ _ _ _ _

pub push_slots-at-requires : goal.push_slots-at-requires
push_slots-at-requires c =
    let g = c.loop-r.invariant in
    omega (arith, g.few, g.wrote.next, g.len, c.requires)

pub loop-r-preserved : goal.loop-r-preserved
loop-r-preserved c =
    let a = c.args in
    let l = c.loop-r in
    let called = c.push_slots-at in
    sites-written-more a.letters a.n a.position a.rules.now (length a.rules.now / 8) a.out.now l.out l.at l.r called.new.out called.result c.requires.0 c.loop-r-test.true called.ensures called.auto.out l.invariant

pub returns : goal.returns
returns c = sites-written-all _ _ _ _ _ _ _ _ _ refl (omega arith) c.loop-r.invariant

pub shape_of-out : goal.shape_of-out
shape_of-out c = c.loop-r.invariant.len
