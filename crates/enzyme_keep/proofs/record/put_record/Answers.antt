-- `put_record` meets its contract. Assumes nothing.
use Rattle.enzyme_cuts.specs.Cutting.{range}
use Rattle.enzyme_keep.specs.BufferLaws.{record_placed}
use Rattle.enzyme_keep.proofs.record.put_record.Goals as goal

pub returns : goal.returns
returns c = let a = c.args in
    rw (c.position-place.ensures, record_placed a.n a.last (range a.a a.e a.missed a.semi) a.times) at c.put_placed.ensures
