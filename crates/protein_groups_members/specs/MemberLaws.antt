-- Members written as records are read back, and where they are in range none is bad. Assumes nothing.
use Prim.Native.Nat.{ℕ, zero, suc, ◌+◌, ◌*◌, ◌/◌, ◌≤◌, ◌<◌}
use Rattle.std.specs.Prelude.{◌≡◌, refl, Bool, true, get_or, take, drop}
use Rattle.std.proofs.Common.{sym, ◌∙◌, true≢false, ⊎_elim, arith, get_or-append-add}
use Rattle.std.proofs.Math.Path.{ap}
use Rattle.std.proofs.Math.Bool.{not}
use mathlib.Core.List.{List, [], ◌∷◌, ◌++◌, flatten, map}
use borrow.Author.Tests.{lt-ltb, le-leb}
use Rattle.std.proofs.Math.ListN.{length}
use Rattle.std.proofs.lemmas.List.{length-map}
use Rattle.std.proofs.Math.Seq.{drop-append-add}
use Rattle.lists.specs.KeepLaws.{map-all}
use Rattle.lists.specs.Tests.{below?}
use Rattle.lists.specs.Lists.{up_from}
use Rattle.records.specs.Le.{le, value, number_at}
use Rattle.records.specs.LeLaws.{value-le}
use Rattle.records.specs.RoomLaws.{Sized, length_flatten}
use Rattle.records.specs.Search.{seek}
use Rattle.records.specs.SearchLaws.{seek-passes, seek-to}
use Rattle.protein_groups_members.specs.Members.{Member, member_at, members_in, member_bytes, good_member, bad_member, first_bad_member}

-- the numbers of all members fit their fields
abbrev pub StorableMember : List Member → Type 0
StorableMember [] = Unit {0}
StorableMember (m ∷ ms) = ((m.group < 4294967296) × (m.protein < 4294967296)) × StorableMember ms

pub length-member : (m : Member) → length (member_bytes m) ≡ 12
unfolding member_bytes
length-member m = refl

pub sized_members : (ms : List Member) → Sized 12 (map member_bytes ms)
sized_members ms = map-all (λ (r : List ℕ). length r ≡ 12) member_bytes length-member ms

-- a record in front, and those behind it
first_member : (m : Member) (rest : List ℕ) → m.group < 4294967296 → m.protein < 4294967296 → member_at (member_bytes m ++ rest) 0 ≡ m
unfolding number_at member_bytes
first_member m rest g p = λ i. record { group = value-le 4 m.group g i; protein = value-le 4 m.protein p i; decoy = m.decoy }

later_member : (m : Member) (rest : List ℕ) (i : ℕ) → member_at (member_bytes m ++ rest) (suc i) ≡ member_at rest i
unfolding number_at
later_member m rest i =
    let l : length (member_bytes m) ≡ 12 = length-member m in
    let a : 12 * suc i ≡ length (member_bytes m) + 12 * i = omega arith in
    let b : 12 * suc i + 4 ≡ length (member_bytes m) + (12 * i + 4) = omega arith in
    let c : 12 * suc i + 8 ≡ length (member_bytes m) + (12 * i + 8) = omega arith in
    λ j. record {
      group = (ap (λ (x : ℕ). value (take 4 (drop x (member_bytes m ++ rest)))) a ∙ ap (λ (l : List ℕ). value (take 4 l)) (drop-append-add (member_bytes m) rest (12 * i))) j;
      protein = (ap (λ (x : ℕ). value (take 4 (drop x (member_bytes m ++ rest)))) b ∙ ap (λ (l : List ℕ). value (take 4 l)) (drop-append-add (member_bytes m) rest (12 * i + 4))) j;
      decoy = (ap (λ (x : ℕ). get_or (member_bytes m ++ rest) x 0) c ∙ get_or-append-add (member_bytes m) rest (12 * i + 8) 0) j;
    }

from_later : (m : Member) (rest : List ℕ) (a n : ℕ) → map (member_at (member_bytes m ++ rest)) (up_from (suc a) n) ≡ map (member_at rest) (up_from a n)
from_later m rest a zero = refl
from_later m rest a (suc n) = rw (later_member m rest a, from_later m rest (suc a) n)

all_members : (ms : List Member) → StorableMember ms → map (member_at (flatten (map member_bytes ms))) (up_from 0 (length ms)) ≡ ms
unfolding flatten
all_members [] h = refl
all_members (m ∷ ms) h =
    rw (first_member m (flatten (map member_bytes ms)) h.0.0 h.0.1, from_later m (flatten (map member_bytes ms)) 0 (length ms), all_members ms h.1)

pub count_members : (ms : List Member) → length (flatten (map member_bytes ms)) / 12 ≡ length ms
count_members ms = let e : length (flatten (map member_bytes ms)) ≡ 12 * length ms = length_flatten 12 (map member_bytes ms) (sized_members ms) ∙ ap (λ (n : ℕ). 12 * n) (length-map ms member_bytes) in omega arith

-- THE LAW
pub members_back : (ms : List Member) → StorableMember ms → members_in (flatten (map member_bytes ms)) ≡ ms
members_back ms h = rw (count_members ms) (all_members ms h)

-- ---- members in range are accepted

-- groups and proteins are below their counts, flags 0 or 1
abbrev pub Ranged : ℕ → ℕ → List Member → Type 0
Ranged groups proteins [] = Unit {0}
Ranged groups proteins (m ∷ ms) = ((m.group < groups) × (m.protein < proteins) × (m.decoy ≤ 1)) × Ranged groups proteins ms

pub ranged_storable : (groups proteins : ℕ) → groups ≤ 4294967296 → proteins ≤ 4294967296 → (ms : List Member) → Ranged groups proteins ms → StorableMember ms
ranged_storable groups proteins g p [] h = tt
ranged_storable groups proteins g p (m ∷ ms) h = let r = h.0 in ((omega arith, omega arith), ranged_storable groups proteins g p ms h.1)

module _ (groups proteins : ℕ) (g : groups ≤ 4294967296) (p : proteins ≤ 4294967296) where
  first_good : (m : Member) (rest : List ℕ) → m.group < groups → m.protein < proteins → m.decoy ≤ 1 → good_member (member_bytes m ++ rest) groups proteins 0 ≡ true
  unfolding number_at member_bytes
  first_good m rest a b c =
      let x : value (le 4 m.group) ≡ m.group = value-le 4 m.group (omega arith) in
      let y : value (le 4 m.protein) ≡ m.protein = value-le 4 m.protein (omega arith) in
      rw (x, y, lt-ltb m.group groups a, lt-ltb m.protein proteins b, le-leb m.decoy 1 c)

  later_good : (m : Member) (rest : List ℕ) (i : ℕ) → good_member (member_bytes m ++ rest) groups proteins (suc i) ≡ good_member rest groups proteins i
  later_good m rest i =
      let e = later_member m rest i in
      rw (
        ap (λ (n : Member). n.group) e,
        ap (λ (n : Member). n.protein) e,
        ap (λ (n : Member). n.decoy) e,
        byte 9,
        byte 10,
        byte 11,
      )
    where
      byte : (k : ℕ) → get_or (member_bytes m ++ rest) (12 * suc i + k) 0 ≡ get_or rest (12 * i + k) 0
      byte k =
          let l : length (member_bytes m) ≡ 12 = length-member m in
          let c : 12 * suc i + k ≡ length (member_bytes m) + (12 * i + k) = omega arith in
          ap (λ (x : ℕ). get_or (member_bytes m ++ rest) x 0) c ∙ get_or-append-add (member_bytes m) rest (12 * i + k) 0

  all_good : (ms : List Member) → Ranged groups proteins ms → (i : ℕ) → i < length ms → good_member (flatten (map member_bytes ms)) groups proteins i ≡ true
  unfolding flatten
  all_good [] h i l = absurd (omega arith)
  all_good (m ∷ ms) h zero l = first_good m (flatten (map member_bytes ms)) h.0.0 h.0.1 h.0.2
  all_good (m ∷ ms) h (suc i) l = later_good m (flatten (map member_bytes ms)) i ∙ all_good ms h.1 i (omega arith)

  pub members_accepted : (ms : List Member) → Ranged groups proteins ms → first_bad_member (flatten (map member_bytes ms)) groups proteins ≡ length ms
  unfolding first_bad_member
  members_accepted ms h =
      rw (count_members ms)
      (⊎_elim (λ (l : seek bad 0 n < 0 + n). absurd (true≢false (sym (seek-passes bad 0 n l) ∙ ap not (all_good ms h (seek bad 0 n) (omega arith)))))
      (λ (l : 0 + n ≤ seek bad 0 n). omega (arith, seek-to bad 0 n)) (below? (seek bad 0 n) (0 + n)))
    where
      n : ℕ
      n = length ms

      bad : ℕ → Bool
      bad = bad_member (flatten (map member_bytes ms)) groups proteins
