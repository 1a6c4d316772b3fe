-- What the calls on peptides leave: as in Calls, *place first, then the other results and the lent slices.
use Rattle.std.specs.Prelude.{ℕ, ◌≡◌, Bool, false, cond, List, [], ◌∷◌, length, take, leb, eqb, Float, Ok, Err}
use Rattle.std.proofs.Common.{ap}
use Rattle.peptide_mass.specs.Masses.{Weighed, wrong_size}
use Rattle.enzyme_keep.specs.Digests.{position_in}
use Rattle.peptide_listing.specs.FormTests.{too_large}
use Rattle.peptide.specs.declared.making.Peptide.{Peptide}
use Rattle.records.specs.Tested.{and_then}
use Rattle.letters.specs.Letters.{capitals}
use Rattle.peptide_slots.specs.Windows.{window}
use Rattle.peptide.specs.Peptides.{tested_peptide, reversed_peptide}
use Rattle.peptide.specs.Digested.{weighed_digest}
use Rattle.peptide.specs.Forms.{forms_outcome}
use Rattle.records.specs.declared.refusal.Refusal.TheVariants.{Size, Length, Field}
use Rattle.records.specs.Refusals.{number_of, place_of}
use Rattle.records.specs.Outcome.{Outcome, outcome, equal_only, unless_refused}
use Rattle.sendumaal_calls.specs.Calls.{accepted, refused, counted_call}
use Rattle.records.specs.Answers.{Passed, Tested}

-- ---- the base mass: the number, *place and *mass

pub record Weight : Type 0 where
  pub number : ℕ
  pub place : ℕ
  pub mass : Float

abbrev pub weight : ℕ → ℕ → Float → Weight
weight n p m = record { number = n; place = p; mass = m }

abbrev pub weight_call : Weighed → Float → Weight
weight_call (Ok m) old = weight 0 0 m
weight_call (Err r) old = weight (number_of r) (place_of r) old

-- ---- the base mass of a digest: the number, *place, *mass and *position

pub record DigestWeight : Type 0 where
  pub number : ℕ
  pub place : ℕ
  pub mass : Float
  pub position : ℕ

abbrev pub digest_weight : ℕ → ℕ → Float → ℕ → DigestWeight
digest_weight n p m q = record { number = n; place = p; mass = m; position = q }

-- the position is the record's
abbrev pub digest_weight_call : Weighed → ℕ → Float → ℕ → DigestWeight
digest_weight_call (Ok m) position oldMass oldPosition = digest_weight 0 0 m position
digest_weight_call (Err r) position oldMass oldPosition = digest_weight (number_of r) (place_of r) oldMass oldPosition

-- the arguments in their order, and what `*mass` and `*position` hold at entry
abbrev pub digest_mass_call : List ℕ → List ℕ → List Float → Float → Float → ℕ → DigestWeight
digest_mass_call letters bytes masses water oldMass oldPosition = digest_weight_call (weighed_digest letters bytes masses water) (position_in bytes) oldMass oldPosition

-- no second number, place, mass or position meets the contract
pub digest-mass_only : (letters bytes : List ℕ) (masses : List Float) (water oldMass : Float) (oldPosition : ℕ) (n m p q i j : ℕ) (x y : Float)
    → digest_weight n p x i ≡ digest_mass_call letters bytes masses water oldMass oldPosition → digest_weight m q y j ≡ digest_mass_call letters bytes masses water oldMass oldPosition
    → (n ≡ m) × (p ≡ q) × (x ≡ y) × (i ≡ j)
digest-mass_only letters bytes masses water oldMass oldPosition n m p q i j x y e f =
    let g = equal_only (digest_weight n p x i) (digest_weight m q y j) (digest_mass_call letters bytes masses water oldMass oldPosition) e f in
    (ap (λ (w : DigestWeight). w.number) g, ap (λ (w : DigestWeight). w.place) g, ap (λ (w : DigestWeight). w.mass) g, ap (λ (w : DigestWeight). w.position) g)

-- ---- a peptide of 1 to 64 lent letters, as capitals, and their ids

abbrev pub peptide_of : List ℕ → List ℕ → ℕ → ℕ → ℕ → Bool → Peptide
peptide_of letters ids nterm cterm position decoy =
    record {
      letters = capitals (window 64 0 letters);
      ids = window 64 0 ids;
      nterm = nterm;
      cterm = cterm;
      len = length letters;
      position = position;
      decoy = decoy;
    }

-- 1: its size; 8: an id for each letter
abbrev pub tested_lengths : List ℕ → List ℕ → Tested
tested_lengths letters ids =
    cond (wrong_size (length letters)) (Err Size)
    (cond (eqb (length ids) (length letters)) Passed (Err Length))

-- ---- forms

-- the arguments in their order, and what `out` and `*count` hold at entry
pub record FormsArguments : Type 0 where
  pub letters : List ℕ
  pub ids : List ℕ
  pub nterm : ℕ
  pub cterm : ℕ
  pub position : ℕ
  pub variable : List ℕ
  pub fixed : List ℕ
  pub limit : ℕ
  pub cap : ℕ
  pub out : List ℕ
  pub count : ℕ

abbrev pub formed : FormsArguments → Peptide
formed a = peptide_of a.letters a.ids a.nterm a.cterm a.position false

-- every size is 1 before any length is 8
abbrev pub forms_call : FormsArguments → Outcome ℕ
forms_call a =
    cond (too_large (length a.letters) a.variable a.fixed a.limit) (refused Size ((a.count ∷ []) ∷ a.out ∷ []))
    (cond (eqb (length a.ids) (length a.letters))
    (counted_call (forms_outcome (formed a) a.variable a.fixed a.limit a.cap a.out) a.count)
    (refused Length ((a.count ∷ []) ∷ a.out ∷ [])))

-- ---- reversal

-- the peptide that is reversed
abbrev pub turning : List ℕ → List ℕ → ℕ → Peptide
turning letters ids decoy = peptide_of letters ids 0 0 0 (eqb decoy 1)

-- of the peptide itself, then 9: the flag is neither 0 nor 1
abbrev pub tested_turn : Peptide → ℕ → Tested
tested_turn p decoy = and_then (tested_peptide p) (cond (leb decoy 1) Passed (Err (Field 0)))

abbrev pub tested_reverse : List ℕ → List ℕ → ℕ → Tested
tested_reverse letters ids decoy = and_then (tested_lengths letters ids) (tested_turn (turning letters ids decoy) decoy)

-- reversed in its place, where the tests pass
abbrev pub reverse_outcome : List ℕ → List ℕ → ℕ → Outcome Tested
reverse_outcome letters ids decoy =
    let p = reversed_peptide (turning letters ids decoy) in
    unless_refused (tested_reverse letters ids decoy) Err (letters ∷ ids ∷ []) (outcome Passed (take (length letters) p.letters ∷ take (length ids) p.ids ∷ []))

abbrev pub other_flag : ℕ → ℕ
other_flag decoy = cond (eqb decoy 1) 0 1

abbrev pub reversed_or : Tested → List (List ℕ) → List (List ℕ) → Outcome ℕ
reversed_or (Ok _) new old = accepted new
reversed_or (Err r) new old = refused r old

-- the first letters and ids of the reversed peptide stand where they came from
abbrev pub turned : List ℕ → List ℕ → ℕ → List (List ℕ)
turned letters ids decoy =
    let p = reversed_peptide (turning letters ids decoy) in
    (other_flag decoy ∷ []) ∷ take (length letters) p.letters ∷ take (length ids) p.ids ∷ []

abbrev pub reverse_call : List ℕ → List ℕ → ℕ → Outcome ℕ
reverse_call letters ids decoy = reversed_or (tested_reverse letters ids decoy) (turned letters ids decoy) ((decoy ∷ []) ∷ letters ∷ ids ∷ [])
