-- What is known where the tests of a grouping passed. Assumes nothing.
use Rattle.std.specs.Prelude.{ℕ, ◌/◌, ◌≤◌, ◌<◌, ◌≡◌, refl, false, ◌||◌, List, length, get_or, ltb}
use Rattle.std.proofs.Common.{⊎_elim, arith, ltb-false}
use Rattle.std.proofs.Math.ListN.{get_or-eq_default}
use Rattle.protein_groups_tests.specs.Testing.{too_large, uneven, needed, first_bad_pair, first_bad_flag, pairs_tested, flags_tested, tested}
use Rattle.lists.specs.Tests.{below?, neither}
use Rattle.records.specs.declared.refusal.Refusal.TheVariants.{Size, Length, Work}
use Rattle.records.specs.TestedLaws.{passed-both, passed_first, passed-field}
use Rattle.cover_edges.specs.Edges.{first_bad_edge, first_bad_mark}
use Rattle.cover_edges.specs.RangeLaws.{in_range, all_bits}
use Rattle.protein_groups_spec.specs.ProteinGroups.{proteins, pair_at}
use Rattle.records.specs.Answers.{Passed}

-- what is known where the tests passed
pub record PairsReady (pairs flags : List ℕ) (peptides proteins words : ℕ) : Type 0 where
  pub few : length pairs / 8 ≤ 1048576
  pub peptides_max : peptides ≤ 262144
  pub proteins-max : proteins ≤ 65536
  pub enough : needed pairs peptides proteins ≤ words
  pub inside : (i : ℕ) → i < length pairs / 8 → ((pair_at pairs i).peptide < peptides) × ((pair_at pairs i).protein < proteins)
  pub bits : (i : ℕ) → get_or flags i 0 ≤ 1

-- a pair has the shape of an edge, and a flag that of a mark: so the code tests them
pub pairs_edges : (pairs : List ℕ) (peptides proteins : ℕ) → first_bad_edge pairs peptides proteins ≡ first_bad_pair pairs peptides proteins
unfolding first_bad_edge first_bad_pair
pairs_edges pairs peptides proteins = refl

pub flags_marks : (flags : List ℕ) → first_bad_mark flags ≡ first_bad_flag flags
unfolding first_bad_mark first_bad_flag
flags_marks flags = refl

pub fair : (pairs : List ℕ) (peptides proteins : ℕ) → too_large pairs peptides proteins ≡ false → (length pairs / 8 ≤ 1048576) × (peptides ≤ 262144) × (proteins ≤ 65536)
fair pairs peptides proteins e =
    let a = neither (ltb 1048576 (length pairs / 8) || ltb 262144 peptides) (ltb 65536 proteins) e in
    let b = neither (ltb 1048576 (length pairs / 8)) (ltb 262144 peptides) a.0 in
    (ltb-false 1048576 (length pairs / 8) b.0, ltb-false 262144 peptides b.1, ltb-false 65536 proteins a.1)

-- THE LAW
pub pairs_ready : (pairs flags : List ℕ) (peptides proteins words : ℕ) → tested pairs flags peptides proteins words ≡ Passed → PairsReady pairs flags peptides proteins words
pairs_ready pairs flags peptides proteins words e =
    let n : ℕ = length pairs / 8 in
    let a = passed_first (too_large pairs peptides proteins) Size _ e in
    let b = passed_first (uneven pairs flags peptides) Length _ a.1 in
    let c = passed_first (ltb words (needed pairs peptides proteins)) Work _ b.1 in
    let d = passed-both (pairs_tested pairs peptides proteins) (flags_tested flags) c.1 in
    let f = fair pairs peptides proteins a.0 in
    let p = ltb-false (first_bad_pair pairs peptides proteins) n (passed-field (first_bad_pair pairs peptides proteins) n d.0) in
    let q = ltb-false (first_bad_flag flags) (length flags) (passed-field (first_bad_flag flags) (length flags) d.1) in
    let bits : (i : ℕ) → i < length flags → get_or flags i 0 ≤ 1 = all_bits flags (rw (flags_marks flags) q) in
    record {
      few = f.0;
      peptides_max = f.1;
      proteins-max = f.2;
      enough = ltb-false words (needed pairs peptides proteins) c.0;
      inside = in_range pairs peptides proteins (rw (pairs_edges pairs peptides proteins) p);
      bits = λ i.
          ⊎_elim (λ (h : i < length flags). bits i h)
          (λ (h : length flags ≤ i). let z : get_or flags i 0 ≡ 0 = get_or-eq_default flags 0 h in omega arith) (below? i (length flags));
    }
