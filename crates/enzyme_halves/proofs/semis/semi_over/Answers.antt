-- `semi_over` meets its contract. Assumes nothing.
use Rattle.enzyme_halves.proofs.semis.semi_over.Goals as goal

pub list_semi-requires : goal.list_semi-requires
list_semi-requires c =
    let p = c.requires in
    (p.0, p.1, c.sites-m.ensures, c.fill_far.ensures.0, p.7, p.8, p.9, p.10, p.11)
