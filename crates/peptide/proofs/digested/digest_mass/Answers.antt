-- `digest_mass` meets its contract. Assumes nothing.
use Rattle.std.proofs.Common.{ℕ, ◌-◌, ◌≤◌, ◌≡◌, length, take, Ok, Err, sym, ap, ◌∙◌, subst, arith, rules}
use Rattle.std.proofs.lemmas.Result.{err_from_is_err_and}
use Rattle.peptide_mass.specs.Masses.{weighed}
use Rattle.peptide_digests.specs.DigestTests.{tested_digest}
use Rattle.peptide.specs.declared.making.Peptide.{Peptide}
use Rattle.peptide.specs.Peptides.{residues_of}
use Rattle.peptide.specs.PeptideLaws.{passed-fits}
use Rattle.peptide.specs.Digested.{digested}
use Rattle.peptide.specs.DigestedLaws.{made-tested, made-digested, mass-refused, digested-passes, digested-mass}
use Rattle.peptide.proofs.digested.digest_mass.Goals.{In_ok-peptide}
use Rattle.peptide.proofs.digested.digest_mass.Goals as goal
use Rattle.records.specs.Answers.{Passed}

passed : (c : In_ok-peptide) → tested_digest c.args.letters.now c.args.bytes.now c.args.masses.now ≡ Passed
passed c = sym (made-tested c.args.letters.now c.args.bytes.now c.args.masses.now (Ok c.in_ok-peptide.peptide) c.in_ok-peptide.ensures)

is : (c : In_ok-peptide) → c.in_ok-peptide.peptide ≡ digested c.args.letters.now c.args.bytes.now
is c =
    let e : Ok c.in_ok-peptide.peptide ≡ Ok (digested c.args.letters.now c.args.bytes.now) = made-digested c.args.letters.now c.args.bytes.now c.args.masses.now (passed c) (Ok c.in_ok-peptide.peptide) c.in_ok-peptide.ensures in
    cc

pub returns-in_err-peptide : goal.returns-in_err-peptide
returns-in_err-peptide c =
    let a = c.args in
    let p = err_from_is_err_and c.from_residual.result c.from_residual.ensures.1 in
    rw (p.1, p.2) (mass-refused a.letters.now a.bytes.now a.masses.now a.water _ (sym (made-tested a.letters.now a.bytes.now a.masses.now (Err _) c.in_err-peptide.ensures)))

pub slice_bounds-base_mass-end : goal.slice_bounds-base_mass-end
slice_bounds-base_mass-end c =
    let a = c.args in
    let o = (goal.at.slice_bounds-base_mass-end c).In_ok-peptide in
    let n : length c.in_ok-peptide.peptide.letters ≡ 64 = search rules in
    let f : c.in_ok-peptide.peptide.len ≤ 64 = subst (λ (q : Peptide). q.len ≤ 64) (sym (is o)) (passed-fits (digested a.letters.now a.bytes.now) (digested-passes a.letters.now a.bytes.now a.masses.now (passed o))) in
    omega arith

pub returns : goal.returns
returns c =
    let a = c.args in
    let p = c.in_ok-peptide.peptide in
    let o = (goal.at.returns c).In_ok-peptide in
    let z : c.from-n.result - 0 ≡ p.len = omega arith in
    c.base_mass.ensures
    ∙ ap (λ (k : ℕ). weighed (take k p.letters) a.masses.now a.water) z
    ∙ ap (λ (q : Peptide). weighed (residues_of q) a.masses.now a.water) (is o)
    ∙ digested-mass a.letters.now a.bytes.now a.masses.now (passed o) a.water
