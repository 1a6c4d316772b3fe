-- What a call of `sendumaal_digest` leaves: as in Calls, *place first, then *count, then the buffer.
use Rattle.std.specs.Prelude.{ℕ, Bool, cond, ◌&&◌, List, [], ◌∷◌, leb, ltb, eqb, Ok, Err}
use Rattle.enzyme_cuts.specs.declared.kinds.Kind.{Kind}
use Rattle.enzyme_cuts.specs.declared.kinds.Kind.TheVariants.{None, End, Set}
use Rattle.enzyme_cuts.specs.declared.kinds.Side.{Side}
use Rattle.enzyme_cuts.specs.declared.kinds.Side.TheVariants.{C, N}
use Rattle.enzyme_cuts.specs.declared.kinds.Enzyme.{Enzyme}
use Rattle.enzyme_spec.specs.declared.settings.Settings.{Settings}
use Rattle.enzyme_spec.specs.Digestion.{tested, digest_outcome}
use Rattle.records.specs.declared.refusal.Refusal.TheVariants.{Size, Field}
use Rattle.records.specs.Outcome.{Outcome}
use Rattle.sendumaal_calls.specs.Calls.{set_of, refused, with_lent, counted_call}
use Rattle.records.specs.Answers.{Tested}

-- 0 none, 1 end, 2 set; 0 C side, 1 N side; 0 or 1 for a flag
abbrev pub is_enzyme : ℕ → ℕ → ℕ → Bool
is_enzyme kind side semi = leb kind 2 && leb side 1 && leb semi 1

abbrev pub kind_numbered : ℕ → ℕ → Kind
kind_numbered kind cleave = cond (eqb kind 1) End (cond (eqb kind 2) (Set (set_of cleave)) None)

abbrev pub side_numbered : ℕ → Side
side_numbered side = cond (eqb side 1) N C

abbrev pub enzyme_numbered : ℕ → ℕ → ℕ → ℕ → ℕ → Enzyme
enzyme_numbered kind cleave skip side semi = record { kind = kind_numbered kind cleave; skip = set_of skip; side = side_numbered side; semi = eqb semi 1 }

abbrev pub settings_of : ℕ → ℕ → ℕ → Settings
settings_of missed minimum maximum = record { missed = missed; minimum = minimum; maximum = maximum }

-- a kind, side or flag that is none is a field out of range, after what the tests find
abbrev pub field_call : Tested → Outcome ℕ
field_call (Ok _) = refused (Field 0) []
field_call (Err r) = refused r []

-- the arguments in their order, and what `out` and `*count` hold at entry
pub record DigestArguments : Type 0 where
  pub letters : List ℕ
  pub alphabet : ℕ
  pub kind : ℕ
  pub cleave : ℕ
  pub skip : ℕ
  pub side : ℕ
  pub semi : ℕ
  pub missed : ℕ
  pub minimum : ℕ
  pub maximum : ℕ
  pub protein : ℕ
  pub out : List ℕ
  pub count : ℕ

abbrev pub enzyme_of : DigestArguments → Enzyme
enzyme_of a = enzyme_numbered a.kind a.cleave a.skip a.side a.semi

abbrev pub settings_in : DigestArguments → Settings
settings_in a = settings_of a.missed a.minimum a.maximum

-- 1 comes first, and missed cleavages above 16 are 1
abbrev pub digest_call : DigestArguments → Outcome ℕ
digest_call a =
    cond (ltb 16 a.missed) (refused Size ((a.count ∷ []) ∷ a.out ∷ []))
    (cond (is_enzyme a.kind a.side a.semi) (counted_call (digest_outcome a.letters (set_of a.alphabet) (enzyme_of a) (settings_in a) a.protein a.out) a.count)
    (with_lent (field_call (tested a.letters (set_of a.alphabet) (enzyme_of a) (settings_in a))) ((a.count ∷ []) ∷ a.out ∷ [])))
