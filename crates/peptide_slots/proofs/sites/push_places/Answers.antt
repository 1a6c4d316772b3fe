-- `push_places` meets its contract. The invariant: the places below k that are hit are written. Assumes nothing.
use Rattle.std.proofs.Common.{arith}
use Rattle.peptide_slots.specs.SiteLaws.{hits-written-all, hits-written-more, hits-written-none}
use Rattle.peptide_slots.specs.Sites.{places_of}
use Rattle.peptide_slots.proofs.sites.push_places.Invariants.{test}
use Rattle.peptide_slots.proofs.sites.push_places.Goals as goal

pub loop-k-init : goal.loop-k-init
loop-k-init c = hits-written-none _ _ _ _ _

pub put_if-next-requires : goal.put_if-next-requires
put_if-next-requires c =
    let p = c.loop-k.invariant in
    omega (arith, p.few, p.wrote.next, p.len)

pub loop-k-preserved : goal.loop-k-preserved
loop-k-preserved c =
    let a = c.args in
    let l = c.loop-k in
    let called = c.put_if-next in
    hits-written-more (test a.rule a.letters a.n) a.rule.base a.n a.out.now a.at l.out l.next l.k _ called.new.out called.result c.loop-k-test.true c.hits_at.ensures called.ensures called.auto.out l.invariant

pub returns : goal.returns
unfolding places_of
returns c = hits-written-all _ _ _ _ _ _ _ _ (omega arith) c.loop-k.invariant

pub shape_of-out : goal.shape_of-out
shape_of-out c = c.loop-k.invariant.len
