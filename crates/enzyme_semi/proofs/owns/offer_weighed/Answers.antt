-- `offer_weighed` meets its contract. Assumes nothing.
use Rattle.enzyme_parts.specs.WalkLaws.{weigh_all}
use Rattle.enzyme_semi.proofs.owns.offer_weighed.Goals as goal

pub offer_parts-requires : goal.offer_parts-requires
offer_parts-requires c =
    let a = c.args in
    let p = c.requires in
    (p.0, p.1, rw (weigh_all a.starts.now a.times a.missed a.i a.j c.if-times-eq0.false) at p.2)
