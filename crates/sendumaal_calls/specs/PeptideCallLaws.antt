-- From the answers on peptides to what the calls leave. Assumes nothing.
use Rattle.std.specs.Prelude.{ℕ, suc, ◌+◌, ◌≤◌, ◌<◌, ◌≡◌, true, false, cond, List, [], ◌∷◌, ◌++◌, length, get_or, set, take, drop, leb, eqb, Float, Ok, Err}
use Rattle.std.proofs.Common.{sym, ap, ◌∙◌, append-nil, arith, add-one, zero-add, eq-eqb, ne_eqb, eqb-true}
use Rattle.std.proofs.Math.Seq.{paste-suc, drop-length}
use Rattle.peptide_mass.specs.Masses.{wrong_size}
use Rattle.peptide_mass.specs.MassLaws.{size_fits}
use Rattle.peptide_listing.specs.FormTests.{too_large}
use Rattle.peptide.specs.declared.making.Peptide.{Peptide}
use Rattle.records.specs.TestedLaws.{passed-both, passed_first, passed-second}
use Rattle.peptide.specs.Peptides.{Made, tested_peptide, reversed_peptide, made_or}
use Rattle.peptide.specs.Forms.{forms_outcome}
use Rattle.records.specs.declared.refusal.Refusal.{Refusal}
use Rattle.records.specs.declared.refusal.Refusal.TheVariants.{Size, Length, Field}
use Rattle.records.specs.Refusals.{number_of, place_of}
use Rattle.sendumaal_calls.specs.Calls.{accepted, refused, counted_call}
use Rattle.sendumaal_calls.specs.PeptideCalls.{weight, digest_weight, FormsArguments, formed, forms_call, tested_lengths, turning, tested_turn, tested_reverse, other_flag, reversed_or, turned, reverse_call}
use Rattle.records.specs.Answers.{Passed, Tested}

pub weight_said : (r : Refusal) (n p : ℕ) (m : Float) → n ≡ number_of r → p ≡ place_of r → weight n p m ≡ weight (number_of r) (place_of r) m
weight_said r n p m e f = rw (e, f)

pub digest-weight_said : (r : Refusal) (n p : ℕ) (m : Float) (q : ℕ) → n ≡ number_of r → p ≡ place_of r → digest_weight n p m q ≡ digest_weight (number_of r) (place_of r) m q
digest-weight_said r n p m q e f = rw (e, f)

module _ (a : FormsArguments) where
  pub forms_size : too_large (length a.letters) a.variable a.fixed a.limit ≡ true → refused Size ((a.count ∷ []) ∷ a.out ∷ []) ≡ forms_call a
  forms_size h = rw h

  module _ (few : too_large (length a.letters) a.variable a.fixed a.limit ≡ false) where
    pub forms_length : (length a.ids ≡ length a.letters → ⊥) → refused Length ((a.count ∷ []) ∷ a.out ∷ []) ≡ forms_call a
    forms_length h = rw (few, ne_eqb (length a.ids) (length a.letters) h)

    pub forms_listed : length a.ids ≡ length a.letters → counted_call (forms_outcome (formed a) a.variable a.fixed a.limit a.cap a.out) a.count ≡ forms_call a
    forms_listed h = rw (few, eq-eqb (length a.ids) (length a.letters) h)

-- ---- reversal

module _ (letters ids : List ℕ) where
  pub lengths_size : wrong_size (length letters) ≡ true → Err Size ≡ tested_lengths letters ids
  lengths_size e = rw e

  module _ (fits : wrong_size (length letters) ≡ false) where
    pub lengths_same : length ids ≡ length letters → Passed ≡ tested_lengths letters ids
    lengths_same e = rw (fits, eq-eqb (length ids) (length letters) e)

    pub lengths_other : (length ids ≡ length letters → ⊥) → Err Length ≡ tested_lengths letters ids
    lengths_other n = rw (fits, ne_eqb (length ids) (length letters) n)

  pub lengths_fit : tested_lengths letters ids ≡ Passed → (length letters ≤ 64) × (length ids ≤ 64)
  lengths_fit h =
      let a = passed_first (wrong_size (length letters)) Size (cond (eqb (length ids) (length letters)) Passed (Err Length)) h in
      let b = passed-second (eqb (length ids) (length letters)) Length Passed a.1 in
      let f : length letters ≤ 64 = size_fits (length letters) a.0 in
      (f, omega (arith, eqb-true (length ids) (length letters) b.0))

  module _ (decoy : ℕ) where
    pub reverse-passed : tested_reverse letters ids decoy ≡ Passed → (length letters ≤ 64) × (length ids ≤ 64) × (tested_peptide (turning letters ids decoy) ≡ Passed)
    reverse-passed h =
        let a = passed-both (tested_lengths letters ids) (tested_turn (turning letters ids decoy) decoy) h in
        let f = lengths_fit a.0 in
        (f.0, f.1, (passed-both (tested_peptide (turning letters ids decoy)) (cond (leb decoy 1) Passed (Err (Field 0))) a.1).0)

    -- what is told of a reversal
    pub reverse_no : (r : Refusal) → tested_reverse letters ids decoy ≡ Err r → refused r ((decoy ∷ []) ∷ letters ∷ ids ∷ []) ≡ reverse_call letters ids decoy
    reverse_no r e = ap (λ (t : Tested). reversed_or t (turned letters ids decoy) ((decoy ∷ []) ∷ letters ∷ ids ∷ [])) (sym e)

    pub reverse_yes : tested_reverse letters ids decoy ≡ Passed → (f : ℕ) (a b : List ℕ) → f ≡ other_flag decoy → a ≡ take (length letters) (reversed_peptide (turning letters ids decoy)).letters
        → b ≡ take (length ids) (reversed_peptide (turning letters ids decoy)).ids → accepted ((f ∷ []) ∷ a ∷ b ∷ []) ≡ reverse_call letters ids decoy
    reverse_yes e f a b x y z = rw (x, y, z) (ap (λ (t : Tested). reversed_or t (turned letters ids decoy) ((decoy ∷ []) ∷ letters ∷ ids ∷ [])) (sym e))

-- ---- an array's first bytes over a slice

abbrev pub overlaid : List ℕ → List ℕ → ℕ → List ℕ
overlaid old from i = take i from ++ drop i old

pub overlaid-more : (old from now : List ℕ) (i : ℕ) → i < length old → i < length from → now ≡ overlaid old from i → set now i (get_or from i 0) ≡ overlaid old from (i + 1)
overlaid-more old from now i h k e =
    let z : 0 + i ≡ i = zero-add i in
    let y : 0 + suc i ≡ suc i = zero-add (suc i) in
    let s : set (take i from ++ drop (0 + i) old) (0 + i) (get_or from i 0) ≡ take (suc i) from ++ drop (0 + suc i) old = paste-suc old 0 from i 0 (omega arith) k in
    ap (λ (l : List ℕ). set l i (get_or from i 0)) e ∙ (rw (z, y) at s) ∙ rw (add-one i)

pub overlaid-all : (old from : List ℕ) (i : ℕ) → i ≡ length old → overlaid old from i ≡ take (length old) from
overlaid-all old from i e = rw (e, drop-length old) (append-nil (take (length old) from))

-- what passed its tests was reversed
pub turned_is : (p q : Peptide) (m : Made) → q ≡ p → tested_peptide p ≡ Passed → m ≡ made_or (tested_peptide q) (reversed_peptide q) q → m ≡ Ok (reversed_peptide p)
turned_is p q m e f g = g ∙ ap (λ (x : Peptide). made_or (tested_peptide x) (reversed_peptide x) x) e ∙ rw f
