-- Laws of a catalogue tested with a lent table. Assumes nothing.
use Rattle.std.specs.Prelude.{ℕ, ◌+◌, ◌-◌, ◌*◌, ◌≤◌, ◌<◌, ◌≡◌, true, false, List, [], ◌∷◌, length, take, drop, leb, Err}
use Rattle.std.proofs.Common.{arith, le-leb}
use Rattle.std.proofs.lemmas.Bool.{lt-leb}
use Rattle.catalogue_repeats.specs.Repeating.{cleared}
use Rattle.records.specs.declared.refusal.Refusal.TheVariants.{Size, Length}
use Rattle.records.specs.Outcome.{outcome}
use Rattle.sorting_spec.specs.Joined.{name_of}
use Rattle.sorting_texts.specs.TextLaws.{stands}
use Rattle.catalogue_spec.specs.Names.{name_count, too_many_names, whole_names, names_tested}
use Rattle.catalogue_spec.specs.NameLaws.{name_end}
use Rattle.catalogue_names.specs.NamesIn.{names_outcome}

-- a name as a part of the names
pub name_part : (names : List ℕ) (i : ℕ) → i < name_count names → take (i * 64 + 64 - i * 64) (drop (i * 64) names) ≡ name_of names i
name_part names i h =
    let k : i * 64 + 64 ≤ length names = name_end names i h in
    (stands (i * 64) (i * 64 + 64) (i * 64) (i * 64 + 64) names (omega arith) (omega arith)).is

-- where the tests of sizes and lengths passed and the table is long enough, the contents are tested in it
pub names_in : (names tab : List ℕ) → too_many_names names ≡ false → whole_names names ≡ true → name_count names + name_count names ≤ length tab
    → names_outcome names tab ≡ outcome (names_tested names) (cleared (name_count names) tab ∷ [])
names_in names tab e f h = let g : leb (name_count names + name_count names) (length tab) ≡ true = le-leb (name_count names + name_count names) (length tab) h in rw (e, f, g)

pub names_short : (names tab : List ℕ) → too_many_names names ≡ false → whole_names names ≡ true → length tab < name_count names + name_count names
    → names_outcome names tab ≡ outcome (names_tested names) (tab ∷ [])
names_short names tab e f h = let g : leb (name_count names + name_count names) (length tab) ≡ false = lt-leb (name_count names + name_count names) (length tab) h in rw (e, f, g)

pub names_many : (names tab : List ℕ) → too_many_names names ≡ true → names_outcome names tab ≡ outcome (Err Size) (tab ∷ [])
names_many names tab e = rw e

pub names_parted : (names tab : List ℕ) → too_many_names names ≡ false → whole_names names ≡ false → names_outcome names tab ≡ outcome (Err Length) (tab ∷ [])
names_parted names tab e f = rw (e, f)
