-- What the tests of a peptide come to, and that reversing twice gives the peptide back. Assumes nothing.
use Rattle.std.specs.Prelude.{ℕ, ◌≤◌, ◌<◌, ◌≡◌, refl, Bool, true, false, List, length, Ok, Err}
use Rattle.std.proofs.Common.{sym, ap, ◌∙◌, subst}
use Rattle.std.proofs.Math.Bool.{not-not}
use borrow.Author.Tests.{lt-ltb, le-ltb}
use Rattle.peptide_mass.specs.Masses.{wrong_size}
use Rattle.peptide_listing.specs.FormTests.{tested_form}
use Rattle.records.specs.declared.refusal.Refusal.{Refusal}
use Rattle.records.specs.declared.refusal.Refusal.TheVariants.{Size, Letter, Field}
use Rattle.records.specs.Tested.{and_then}
use Rattle.records.specs.TestedLaws.{first_refuses, first_passes, passed-both, passed_first}
use Rattle.letters.specs.Letters.{first_bad}
use Rattle.peptide_slots.specs.Mirror.{mirror}
use Rattle.peptide_slots.specs.MirrorLaws.{mirror-mirror}
use Rattle.peptide_mass.specs.MassLaws.{size_fits}
use Rattle.peptide_listing.specs.FormTestLaws.{form_sized}
use Rattle.peptide.specs.declared.making.Peptide.{Peptide}
use Rattle.peptide.specs.Peptides.{tested_in, residues_of, clear, tested_contents, tested_peptide, peptide_from, no_peptide, made_or, reversed_peptide}
use Rattle.records.specs.Answers.{Passed, Tested}

module _ (p : Peptide) where
  module _ (bad : ℕ) (first : bad ≡ first_bad (residues_of p)) where
    pub contents_letter : bad < p.len → Err (Letter bad) ≡ tested_contents p
    unfolding tested_contents
    contents_letter h = rw (first, lt-ltb (first_bad (residues_of p)) p.len (subst (λ (x : ℕ). x < p.len) first h))

    pub contents-clear : p.len ≤ bad → clear p ≡ true → Passed ≡ tested_contents p
    unfolding tested_contents
    contents-clear h e = rw (le-ltb (first_bad (residues_of p)) p.len (subst (λ (x : ℕ). p.len ≤ x) first h), e)

    pub contents-field : p.len ≤ bad → clear p ≡ false → Err (Field 0) ≡ tested_contents p
    unfolding tested_contents
    contents-field h e = rw (le-ltb (first_bad (residues_of p)) p.len (subst (λ (x : ℕ). p.len ≤ x) first h), e)

  pub peptide_tested-size : wrong_size p.len ≡ true → Err Size ≡ tested_peptide p
  unfolding tested_peptide
  peptide_tested-size e = rw e

  pub peptide_tested-on : (r : Tested) → wrong_size p.len ≡ false → r ≡ tested_contents p → r ≡ tested_peptide p
  unfolding tested_peptide
  peptide_tested-on r e f = f ∙ rw e

  pub passed-fits : tested_peptide p ≡ Passed → p.len ≤ 64
  unfolding tested_peptide
  passed-fits h = size_fits p.len (passed_first (wrong_size p.len) Size (tested_contents p) h).0

-- ---- letters and the form of their ids

module _ (letters form : List ℕ) where
  -- a peptide that passes with its form passes alone: the other entries take what is made of a form
  pub form-passes : (position : ℕ) (decoy : Bool) → and_then (tested_form letters form) (tested_contents (peptide_from letters form position decoy)) ≡ Passed
      → tested_peptide (peptide_from letters form position decoy) ≡ Passed
  unfolding tested_peptide
  form-passes position decoy h =
      let b = passed-both (tested_form letters form) (tested_contents (peptide_from letters form position decoy)) h in
      rw (form_sized letters form b.0) b.1

  -- the tests of a form's record, one after the other
  module _ (position : ℕ) (decoy : Bool) (t : Tested) (is : t ≡ tested_form letters form) where
    abbrev new : Peptide
    new = peptide_from letters form position decoy

    pub of_form-refused : (why : Refusal) → t ≡ Err why → and_then (tested_form letters form) (tested_contents new) ≡ Err why
    of_form-refused why e = sym (first_refuses (tested_form letters form) (tested_contents new) why (sym is ∙ e))

    pub of_form-tested : t ≡ Passed → (p : Peptide) → p ≡ new → (u v : Tested) → u ≡ tested_contents p → u ≡ v → and_then (tested_form letters form) (tested_contents new) ≡ v
    of_form-tested e p f u v g h = sym (first_passes (tested_form letters form) (tested_contents new) (sym is ∙ e)) ∙ ap tested_contents (sym f) ∙ sym g ∙ h

-- what the tests found is told of what was made
pub tested_of : (t : Tested) (new other : Peptide) → tested_in (made_or t new other) ≡ t
tested_of (Ok _) p other = refl
tested_of (Err why) p other = refl

-- where tests refuse, no peptide is made
pub made-refused : (t : Tested) (why : Refusal) (p : Peptide) → t ≡ Err why → made_or (Err why) no_peptide no_peptide ≡ made_or t p no_peptide
made-refused t why p e = ap (λ (x : Tested). made_or x p no_peptide) (sym e)

-- where they pass, it is what was made
pub made_given : (t : Tested) (p q : Peptide) → t ≡ Passed → q ≡ p → made_or Passed q no_peptide ≡ made_or t p no_peptide
made_given t p q e f = ap (λ (x : Peptide). made_or Passed x no_peptide) f ∙ ap (λ (x : Tested). made_or x p no_peptide) (sym e)

-- ---- reversal

-- what the type of an array says of its list, and a length that fits
pub record Whole (p : Peptide) : Type 0 where
  pub letters_64 : length p.letters ≡ 64
  pub ids_64 : length p.ids ≡ 64
  pub fits : p.len ≤ 64

pub reversed_twice : (p : Peptide) → Whole p → reversed_peptide (reversed_peptide p) ≡ p
reversed_twice p s =
    let a : mirror p.len (mirror p.len p.letters) ≡ p.letters = mirror-mirror p.len p.letters (rw s.letters_64 s.fits) in
    let b : mirror p.len (mirror p.len p.ids) ≡ p.ids = mirror-mirror p.len p.ids (rw s.ids_64 s.fits) in
    λ i. record { letters = a i; ids = b i; nterm = p.nterm; cterm = p.cterm; len = p.len; position = p.position; decoy = not-not p.decoy i }
