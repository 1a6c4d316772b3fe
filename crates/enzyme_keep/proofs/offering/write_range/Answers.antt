-- `write_range` meets its contract. Assumes nothing.
use Rattle.enzyme_cuts.specs.Cutting.{range}
use Rattle.enzyme_keep.specs.BufferLaws.{record_placed}
use Rattle.enzyme_keep.proofs.offering.write_range.Goals as goal

pub returns : goal.returns
returns c = let a = c.args in
    rw (c.position-place.ensures, record_placed a.n a.last (range a.a a.e a.missed a.semi) a.times) at c.write_placed.ensures
