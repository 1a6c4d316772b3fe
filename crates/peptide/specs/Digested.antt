-- Document 01: "The kept part is handed on as a part that starts in its middle": "The peptide's letters are the slice start to
-- end of the protein, passed to .. peptide making." Of a digest's record: "With decoy 1 its letters are the range's, all but
-- first and last reversed."
use Rattle.std.specs.Prelude.{ℕ, ◌-◌, Bool, false, cond, List, [], take, drop, Float}
use Rattle.peptide_mass.specs.Masses.{Weighed, add_all, weighed_or}
use Rattle.enzyme_keep.specs.Digests.{start_of, end_of, position_in, is_decoy}
use Rattle.peptide_digests.specs.DigestTests.{tested_digest}
use Rattle.peptide.specs.declared.making.Peptide.{Peptide}
use Rattle.peptide.specs.Peptides.{Made, residues_of, peptide_from, no_peptide, made_or, reversed_peptide}

-- ---- the peptide

-- of a range's letters, unmodified; a decoy is that peptide reversed
abbrev pub of_range : List ℕ → ℕ → Bool → Peptide
of_range part position decoy = let p = peptide_from part [] position false in cond decoy (reversed_peptide p) p

unfoldable pub digested : List ℕ → List ℕ → Peptide
digested s r = of_range (take (end_of r - start_of r) (drop (start_of r) s)) (position_in r) (is_decoy r)

unfoldable pub made_of_digest : List ℕ → List ℕ → List Float → Made
unfolding tested_digest digested
made_of_digest s r masses = made_or (tested_digest s r masses) (digested s r) no_peptide

-- ---- its mass

-- a decoy's letters are added in their own order
unfoldable pub weighed_digest : List ℕ → List ℕ → List Float → Float → Weighed
unfolding tested_digest digested add_all
weighed_digest s r masses water = weighed_or (tested_digest s r masses) (add_all masses water (residues_of (digested s r)))
