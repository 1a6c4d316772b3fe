-- `is_name` meets its contract. Assumes nothing.
use Rattle.catalogue_name.proofs.name.is_name.Goals as goal

pub returns : goal.returns
returns c =
    let e = c.name_length-text.ensures in
    let z = c.zeros_to-zeros.ensures in
    rw (z, e)
