-- `Peptide::reverse` meets its contract. Assumes nothing.
use Rattle.std.proofs.Common.{sym, ap}
use Rattle.std.proofs.lemmas.Result.{err_from_is_err_and}
use Rattle.peptide.specs.Peptides.{made_or, reversed_peptide}
use Rattle.peptide.specs.PeptideLaws.{passed-fits}
use Rattle.peptide.proofs.making.Peptide.reverse.Goals as goal

pub returns-in_err-test_peptide : goal.returns-in_err-test_peptide
returns-in_err-test_peptide c =
    let s = c.args.self in
    let p = err_from_is_err_and c.from_residual.result c.from_residual.ensures.1 in
    rw (p.1, p.2) (ap (λ t. made_or t (reversed_peptide s) s) c.in_err-test_peptide.ensures)

pub turned-requires : goal.turned-requires
turned-requires c = passed-fits c.args.self (sym c.in_ok-test_peptide.ensures)

pub returns : goal.returns
returns c =
    let e = c.in_ok-test_peptide.ensures in
    rw (← e, c.turned.ensures)
