-- Document 01: "A peptide is a struct that holds its letters and ids in arrays of 64, places past the length 0 (else 9, place
-- 0, after its letters)." "`Peptide::reverse` does so for letters and residue ids, terminals stay, and the decoy flag flips
-- each time." Document 02, [2]: "Small letters now read as capitals everywhere": a peptide that is made has capitals; reversal moves
-- letters and makes none.
use Rattle.std.specs.Prelude.{ℕ, Bool, false, cond, not, ◌&&◌, List, [], length, get_or, take, drop, leb, ltb, Result, Ok, Err}
use Rattle.records.specs.declared.refusal.Refusal.{Refusal}
use Rattle.records.specs.declared.refusal.Refusal.TheVariants.{Size, Letter, Field}
use Rattle.records.specs.Tested.{and_then}
use Rattle.letters.specs.Letters.{capitals, first_bad}
use Rattle.peptide_slots.specs.Mirror.{mirror, all_zero}
use Rattle.peptide_slots.specs.Windows.{window}
use Rattle.peptide_mass.specs.Masses.{wrong_size}
use Rattle.peptide_listing.specs.FormTests.{tested_form}
use Rattle.peptide.specs.declared.making.Peptide.{Peptide}
use Rattle.records.specs.Answers.{Passed, Tested}

-- ---- the tests

-- the letters that count
abbrev pub residues_of : Peptide → List ℕ
residues_of p = take p.len p.letters

-- places past the length are 0, and the position is one of the four
unfoldable pub clear : Peptide → Bool
unfolding all_zero
clear p = all_zero (drop p.len p.letters) && all_zero (drop p.len p.ids) && leb p.position 3

-- 2: a byte that is no letter, its index; 9: what does not lie clear
unfoldable pub tested_contents : Peptide → Tested
unfolding first_bad clear
tested_contents p =
    cond (ltb (first_bad (residues_of p)) p.len) (Err (Letter (first_bad (residues_of p))))
    (cond (clear p) Passed (Err (Field 0)))

unfoldable pub tested_peptide : Peptide → Tested
unfolding tested_contents
tested_peptide p = cond (wrong_size p.len) (Err Size) (tested_contents p)

-- a peptide, or why none was made
abbrev pub Made : Type 0
Made = Result Peptide Refusal

-- what its tests found
abbrev pub tested_in : Made → Tested
tested_in (Ok p) = Passed
tested_in (Err why) = Err why

-- the new peptide where the tests passed; with what they refuse goes no peptide, so that the other, which the caller has, stands
-- in no answer
abbrev pub made_or : Tested → Peptide → Peptide → Made
made_or (Ok _) new other = Ok new
made_or (Err why) new other = Err why

-- ---- peptides

-- of 1 to 64 letters, with the ids of a form: both ends, then the residues. With no form it is unmodified
abbrev pub peptide_from : List ℕ → List ℕ → ℕ → Bool → Peptide
peptide_from letters form position decoy =
    record {
      letters = capitals (window 64 0 letters);
      ids = window 64 2 form;
      nterm = get_or form 0 0;
      cterm = get_or form 1 0;
      len = length letters;
      position = position;
      decoy = decoy;
    }

-- no letters and no ids
abbrev pub no_peptide : Peptide
no_peptide = peptide_from [] [] 0 false

-- of a form's one record: 1, 8, then 2 and 9 of the peptide
abbrev pub made_of_form : List ℕ → List ℕ → ℕ → Bool → Made
made_of_form letters form position decoy =
    let p = peptide_from letters form position decoy in
    made_or (and_then (tested_form letters form) (tested_contents p)) p no_peptide

abbrev pub reversed_peptide : Peptide → Peptide
reversed_peptide p =
    record {
      letters = mirror p.len p.letters;
      ids = mirror p.len p.ids;
      nterm = p.nterm;
      cterm = p.cterm;
      len = p.len;
      position = p.position;
      decoy = not p.decoy;
    }
