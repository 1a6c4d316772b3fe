-- What a call of `digest` answers, and what its buffer holds then. Document 02, [2]: "Small letters now read as capitals everywhere:
-- enzyme rules, sequences, .. and the test for a repeated peptide."
use Rattle.std.specs.Prelude.{ℕ, ◌≡◌, Bool, cond, not, ◌&&◌, ◌||◌, List, [], ◌∷◌, map, length, ltb, Err}
use Rattle.records.specs.declared.refusal.Refusal.TheVariants.{Size, Letter, Alphabet}
use Rattle.records.specs.Outcome.{Outcome, outcome, unless_refused, only}
use Rattle.records.specs.Room.{counted}
use Rattle.letters.specs.declared.letter_set.LetterSet.{LetterSet}
use Rattle.letters.specs.Letters.{capitals, empty, proper, subset, first_bad}
use Rattle.enzyme_cuts.specs.declared.kinds.Kind.{Kind}
use Rattle.enzyme_cuts.specs.declared.kinds.Kind.TheVariants.{None, End, Set}
use Rattle.enzyme_cuts.specs.declared.kinds.Enzyme.{Enzyme}
use Rattle.enzyme_cuts.specs.Cutting.{Range, candidates, digests, occurs}
use Rattle.enzyme_keep.specs.Digests.{record_of}
use Rattle.enzyme_spec.specs.declared.settings.Settings.{Settings}
use Rattle.records.specs.Answers.{Counted, Passed, Tested}

-- 1: a protein has at most 65,536 letters, missed is at most 16, minimum and maximum at most 65,536
abbrev pub too_large : List ℕ → Settings → Bool
too_large s st = ltb 65536 (length s) || ltb 16 st.missed || ltb 65536 st.minimum || ltb 65536 st.maximum

-- a bit above 25 is no letter of any alphabet
abbrev pub in_alphabet : LetterSet → LetterSet → Bool
in_alphabet set alphabet = proper set && subset set alphabet

-- the cleave set counts where the kind is a set
abbrev pub cleave_of : Kind → LetterSet
cleave_of None = empty
cleave_of End = empty
cleave_of (Set cleave) = cleave

-- 3: alphabet bits above 25, or a letter of the cleave set (kind set) or skip set (any kind) outside the alphabet
abbrev pub bad_sets : Enzyme → LetterSet → Bool
bad_sets e alphabet = not (proper alphabet && in_alphabet (cleave_of e.kind) alphabet && in_alphabet e.skip alphabet)

-- 1, then 3, then 2 at the first byte that is no letter
abbrev pub tested : List ℕ → LetterSet → Enzyme → Settings → Tested
tested s alphabet e st =
    cond (too_large s st) (Err Size)
    (cond (bad_sets e alphabet) (Err Alphabet)
    (cond (ltb (first_bad s) (length s)) (Err (Letter (first_bad s))) Passed))

-- the digests as records, decoy 0, the protein as given, and how often the letters occur among the sites (document 02, [7])
abbrev pub digest_records : Enzyme → ℕ → ℕ → ℕ → ℕ → List ℕ → List (List ℕ)
digest_records e missed minimum maximum protein s =
    let sites = candidates e missed minimum maximum s in
    map (λ (r : Range). record_of (length s) protein r (occurs s sites r)) (digests e missed minimum maximum s)

-- then 11: a list of at most 1,048,576 records of 20 bytes, those of the letters as capitals
abbrev pub digest_outcome : List ℕ → LetterSet → Enzyme → Settings → ℕ → List ℕ → Outcome Counted
digest_outcome s alphabet e st protein old =
    unless_refused (tested s alphabet e st) Err (old ∷ []) (counted 20 1048576 old (digest_records e st.missed st.minimum st.maximum protein (capitals s)))

-- no second answer and no second contents meet the contract of `digest`
pub digest_only : (s : List ℕ) (alphabet : LetterSet) (e : Enzyme) (st : Settings) (protein : ℕ) (old : List ℕ) (r q : Counted) (k l : List ℕ)
    → outcome r (k ∷ []) ≡ digest_outcome s alphabet e st protein old → outcome q (l ∷ []) ≡ digest_outcome s alphabet e st protein old → (r ≡ q) × (k ∷ [] ≡ l ∷ [])
digest_only s alphabet e st protein old r q k l = only r q (k ∷ []) (l ∷ []) (digest_outcome s alphabet e st protein old)
