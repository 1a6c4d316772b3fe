-- `offer_parts` meets its contract. Assumes nothing.
use Rattle.enzyme_semi.proofs.owns.offer_parts.Goals as goal

pub offer_own-requires : goal.offer_own-requires
offer_own-requires c =
    let p = c.place-a.ensures in
    let q = c.place-b.ensures in
    (p.1, q.1, rw (p.0, c.place-z.ensures.0, q.0, c.place-e.ensures.0) c.requires.2)
