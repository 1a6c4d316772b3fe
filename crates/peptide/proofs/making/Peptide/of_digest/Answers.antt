-- `Peptide::of_digest` meets its contract. Assumes nothing.
use Rattle.std.proofs.Common.{◌≤◌, length, sym, arith}
use Rattle.std.proofs.lemmas.Result.{err_from_is_err_and}
use Rattle.peptide_digests.specs.DigestTestLaws.{passed_digestible}
use Rattle.peptide.specs.Digested.{digested, made_of_digest}
use Rattle.peptide.specs.PeptideLaws.{made-refused, made_given}
use Rattle.peptide.specs.DigestedLaws.{range-fits}
use Rattle.peptide.proofs.making.Peptide.of_digest.Goals.{After-byte_at-decoy}
use Rattle.peptide.proofs.making.Peptide.of_digest.Goals as goal

-- the range that was read lies within the letters
within : (c : After-byte_at-decoy) → (c.u32_at-start.result ≤ c.u32_at-end.result) × (c.u32_at-end.result ≤ length c.args.letters.now)
within c =
    let a = c.args in
    let d = passed_digestible a.letters.now a.bytes.now a.masses.now (sym c.in_ok-test_digest.ensures) in
    let r = d.rises in
    rw (c.u32_at-start.ensures, c.u32_at-end.ensures) (omega arith, d.within)

pub returns-in_err-test_digest : goal.returns-in_err-test_digest
unfolding made_of_digest
returns-in_err-test_digest c =
    let a = c.args in
    let p = err_from_is_err_and c.from_residual.result c.from_residual.ensures.1 in
    rw (p.1, p.2) (made-refused _ _ (digested a.letters.now a.bytes.now) (sym c.in_err-test_digest.ensures))

pub slice_bounds-of_range-count : goal.slice_bounds-of_range-count
slice_bounds-of_range-count c = (within (goal.at.slice_bounds-of_range-count c).After-byte_at-decoy).0

pub slice_bounds-of_range-start : goal.slice_bounds-of_range-start
slice_bounds-of_range-start c = (within (goal.at.slice_bounds-of_range-start c).After-byte_at-decoy).0

pub slice_bounds-of_range-end : goal.slice_bounds-of_range-end
slice_bounds-of_range-end c = (within (goal.at.slice_bounds-of_range-end c).After-byte_at-decoy).1

pub of_range-requires : goal.of_range-requires
of_range-requires c =
    let a = c.args in
    rw (c.u32_at-start.ensures, c.u32_at-end.ensures) (range-fits a.letters.now a.bytes.now a.masses.now (sym c.in_ok-test_digest.ensures))

pub returns : goal.returns
unfolding made_of_digest digested
returns c =
    let a = c.args in
    made_given _ (digested a.letters.now a.bytes.now) c.of_range.result (sym c.in_ok-test_digest.ensures) (rw (c.u32_at-start.ensures, c.u32_at-end.ensures, c.byte_at-position.ensures, c.byte_at-decoy.ensures) at c.of_range.ensures)
