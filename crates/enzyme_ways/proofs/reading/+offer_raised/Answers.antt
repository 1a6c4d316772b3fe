-- `offer_raised` meets its contract, size by size; the room grows until it is enough. Assumes nothing.
use native.Mathlib.Omega.{arith}
use Rattle.enzyme_ways.proofs.reading.+offer_raised.Goals as goal

pub offer_raised-requires : goal.offer_raised-requires
offer_raised-requires t c =
    let p = c.requires in
    (omega (arith, c.if-room-letters.true), (p.0, p.1, p.2, omega arith, omega (arith, c.if-room-letters.true)))
