-- What is known where the tests of a report line passed. Assumes nothing.
use Rattle.std.specs.Prelude.{ℕ, ◌+◌, ◌*◌, ◌/◌, ◌%◌, ◌≤◌, ◌<◌, ◌≡◌, refl, Bool, true, false, cond, not, ◌&&◌, ◌||◌, List, length, get_or, ltb, leb, eqb, Ok, Err}
use Rattle.std.proofs.Common.{ap₂, ◌∙◌, ltb-true, ltb-false, leb-true, leb-false, eqb-true}
use Rattle.std.proofs.lemmas.Bool.{not-false}
use Rattle.report_lines_tests.specs.Testing.{too_large, uneven, members_tested, marks_tested, bad_protein, first_bad_protein, list_tested, bad_tag_byte, first_bad_tag_byte, tag_tested, lists_tested, contents, tested}
use Rattle.lists.specs.Tests.{both, neither}
use Rattle.records.specs.declared.refusal.Refusal.TheVariants.{Size, Length, Field, Name, Repeat}
use Rattle.records.specs.Le.{number_at}
use Rattle.records.specs.Tested.{and_then}
use Rattle.records.specs.TestedLaws.{passed-both, passed_first}
use Rattle.records.specs.Search.{seek}
use Rattle.records.specs.SeekingLaws.{none_found, none-tested}
use Rattle.catalogue_spec.specs.Names.{name_count, too_many_names, whole_names, bad_name, wrong_name, wrong_at, names_tested}
use Rattle.cover_edges.specs.Edges.{bad_mark, first_bad_mark}
use Rattle.records.specs.Refusals.{number_of}
use Rattle.protein_groups_members.specs.Members.{good_member, bad_member, first_bad_member}
use Rattle.records.specs.Answers.{Passed, Tested}

pub line_few_names : (names members marks list : List ℕ) → too_large names members marks list ≡ false → too_many_names names ≡ false
line_few_names names members marks list e =
    let a = neither (too_many_names names || ltb 131072 (length members / 12) || ltb 131072 (length marks)) (ltb 1048576 (length list)) e in
    let b = neither (too_many_names names || ltb 131072 (length members / 12)) (ltb 131072 (length marks)) a.0 in
    (neither (too_many_names names) (ltb 131072 (length members / 12)) b.0).0

pub line-whole-names : (names members : List ℕ) → uneven names members ≡ false → whole_names names ≡ true
line-whole-names names members e = (both (whole_names names) (eqb (length members % 12) 0) (not-false _ e)).0

-- sizes
pub record Sizes (names members marks list : List ℕ) : Type 0 where
  pub few_names : name_count names ≤ 65536
  pub few_members : length members / 12 ≤ 131072
  pub few_marks : length marks ≤ 131072
  pub few_listed : length list ≤ 1048576
  pub whole : length members % 12 ≡ 0

sizes : (names members marks list : List ℕ) → too_large names members marks list ≡ false → uneven names members ≡ false → Sizes names members marks list
sizes names members marks list e f =
    let a = neither (too_many_names names || ltb 131072 (length members / 12) || ltb 131072 (length marks)) (ltb 1048576 (length list)) e in
    let b = neither (too_many_names names || ltb 131072 (length members / 12)) (ltb 131072 (length marks)) a.0 in
    let c = neither (too_many_names names) (ltb 131072 (length members / 12)) b.0 in
    record {
      few_names = ltb-false 65536 (name_count names) c.0;
      few_members = ltb-false 131072 (length members / 12) c.1;
      few_marks = ltb-false 131072 (length marks) b.1;
      few_listed = ltb-false 1048576 (length list) a.1;
      whole = eqb-true (length members % 12) 0 (both (whole_names names) (eqb (length members % 12) 0) (not-false _ f)).1;
    }

-- members: groups, proteins and flags within theirs
pub record GoodMember (members : List ℕ) (groups proteins i : ℕ) : Type 0 where
  pub group : number_at 4 members (12 * i) < groups
  pub protein : number_at 4 members (12 * i + 4) < proteins
  pub flag : get_or members (12 * i + 8) 0 ≤ 1

good_member_lem : (members : List ℕ) (groups proteins i : ℕ) → good_member members groups proteins i ≡ true → GoodMember members groups proteins i
good_member_lem members groups proteins i e =
    let t₁ = ltb (number_at 4 members (12 * i)) groups in
    let t₂ = ltb (number_at 4 members (12 * i + 4)) proteins in
    let t₃ = leb (get_or members (12 * i + 8) 0) 1 in
    let t₄ = eqb (get_or members (12 * i + 9) 0) 0 in
    let t₅ = eqb (get_or members (12 * i + 10) 0) 0 in
    let t₆ = eqb (get_or members (12 * i + 11) 0) 0 in
    let a = both (t₁ && t₂ && t₃ && t₄ && t₅) t₆ e in
    let b = both (t₁ && t₂ && t₃ && t₄) t₅ a.0 in
    let c = both (t₁ && t₂ && t₃) t₄ b.0 in
    let d = both (t₁ && t₂) t₃ c.0 in
    let g = both t₁ t₂ d.0 in
    record { group = ltb-true _ _ g.0; protein = ltb-true _ _ g.1; flag = leb-true _ _ d.1 }

members_good : (members : List ℕ) (groups proteins : ℕ) → members_tested members groups proteins ≡ Passed → (i : ℕ) → i < length members / 12 → GoodMember members groups proteins i
unfolding first_bad_member
members_good members groups proteins e i h = good_member_lem members groups proteins i (not-false _ (none-tested (bad_member members groups proteins) (length members / 12) e i h))

marks_good : (marks : List ℕ) → marks_tested marks ≡ Passed → (i : ℕ) → i < length marks → get_or marks i 0 ≤ 1
unfolding first_bad_mark
marks_good marks e i h = ltb-false 1 (get_or marks i 0) (none-tested (bad_mark marks) (length marks) e i h)

list_good : (list : List ℕ) (proteins : ℕ) → list_tested list proteins ≡ Passed → (i : ℕ) → i < length list → get_or list i 0 < proteins
unfolding first_bad_protein
list_good list proteins e i h = leb-false proteins (get_or list i 0) (none-tested (bad_protein list proteins) (length list) e i h)

tag_good : (tag : List ℕ) → tag_tested tag ≡ Passed → (length tag ≤ 16) × ((i : ℕ) → i < length tag → (33 ≤ get_or tag i 0) × (get_or tag i 0 ≤ 126))
unfolding first_bad_tag_byte
tag_good tag e =
    let f = neither (ltb 16 (length tag)) (ltb (first_bad_tag_byte tag) (length tag)) (passed_first (ltb 16 (length tag) || ltb (first_bad_tag_byte tag) (length tag)) (Name 0) Passed e).0 in (
      ltb-false 16 (length tag) f.0,
      λ i h.
          let b = both (leb 33 (get_or tag i 0)) (leb (get_or tag i 0) 126) (not-false _ (none_found (bad_tag_byte tag) (length tag) f.1 i h)) in
          (leb-true 33 (get_or tag i 0) b.0, leb-true (get_or tag i 0) 126 b.1),
    )

-- THE LAW
pub record GoodLine (names members marks list tag : List ℕ) : Type 0 where
  pub sized : Sizes names members marks list
  pub held : (i : ℕ) → i < length members / 12 → GoodMember members (length marks) (name_count names) i
  pub marked : (i : ℕ) → i < length marks → get_or marks i 0 ≤ 1
  pub listed : (i : ℕ) → i < length list → get_or list i 0 < name_count names
  pub short : length tag ≤ 16
  pub shown : (i : ℕ) → i < length tag → (33 ≤ get_or tag i 0) × (get_or tag i 0 ≤ 126)

pub line-passed : (names members marks list tag : List ℕ) → tested names members marks list tag ≡ Passed → GoodLine names members marks list tag
line-passed names members marks list tag e =
    let a = passed_first (too_large names members marks list) Size _ e in
    let b = passed_first (uneven names members) Length _ a.1 in
    let c = passed-both (names_tested names) _ b.1 in
    let d = passed-both (members_tested members (length marks) (name_count names)) _ c.1 in
    let f = passed-both (marks_tested marks) _ d.1 in
    let g = passed-both (list_tested list (name_count names)) (tag_tested tag) f.1 in
    let t = tag_good tag g.1 in
    record {
      sized = sizes names members marks list a.0 b.0;
      held = members_good members (length marks) (name_count names) d.0;
      marked = marks_good marks f.0;
      listed = list_good list (name_count names) g.0;
      short = t.0;
      shown = t.1;
    }

-- sizes and lengths passed
pub record Fair (names members marks list : List ℕ) : Type 0 where
  pub small : too_large names members marks list ≡ false
  pub even : uneven names members ≡ false

pub fair_sizes : {names members marks list : List ℕ} → Fair names members marks list → Sizes names members marks list
fair_sizes {names} {members} {marks} {list} f = sizes names members marks list f.small f.even

pub fair_good : {names members marks list : List ℕ} (tag : List ℕ) → Fair names members marks list → contents names members marks list tag ≡ Passed → GoodLine names members marks list tag
fair_good {names} {members} {marks} {list} tag f e = line-passed names members marks list tag (rw (f.small, f.even) e)

-- what was found of the names, and then of the other lists, is what the contents tell
pub contents-told : (names members marks list tag : List ℕ) {named : Tested} {k : ℕ} {r : Tested} → named ≡ names_tested names → k ≡ name_count names
    → r ≡ and_then named (lists_tested members marks list tag k) → r ≡ contents names members marks list tag
contents-told names members marks list tag p q l = l ∙ ap₂ (λ (x : Tested) (y : ℕ). and_then x (lists_tested members marks list tag y)) p q

-- not 11
abbrev pub not_room : Tested → Bool
not_room (Ok _) = true
not_room (Err why) = not (eqb (number_of why) 11)

not_room_cond : (b : Bool) (x y : Tested) → not_room x ≡ true → not_room y ≡ true → not_room (cond b x y) ≡ true
not_room_cond true x y p q = p
not_room_cond false x y p q = q

not_room_then : (x y : Tested) → not_room x ≡ true → not_room y ≡ true → not_room (and_then x y) ≡ true
not_room_then (Ok _) y p q = q
not_room_then (Err why) y p q = p

not_room_wrong : (b : Bool) (at : ℕ) → not_room (Err (cond b (Name at) (Repeat at))) ≡ true
not_room_wrong true at = refl
not_room_wrong false at = refl

not_room_names : (names : List ℕ) → not_room (names_tested names) ≡ true
unfolding names_tested
not_room_names names =
    let at : ℕ = seek (wrong_name names) 0 (name_count names) in
    not_room_cond (ltb at (name_count names)) (Err (wrong_at names at)) Passed (not_room_wrong (bad_name names at) at) refl

pub not_room_tested : (names members marks list tag : List ℕ) → not_room (tested names members marks list tag) ≡ true
not_room_tested names members marks list tag =
    not_room_cond (too_large names members marks list) (Err Size) _ refl
    (not_room_cond (uneven names members) (Err Length) _ refl
    (not_room_then (names_tested names) _ (not_room_names names)
    (not_room_then (members_tested members (length marks) (name_count names)) _ (not_room_cond (ltb (first_bad_member members (length marks) (name_count names)) (length members / 12)) (Err (Field (first_bad_member members (length marks) (name_count names)))) Passed refl refl)
    (not_room_then (marks_tested marks) _ (not_room_cond (ltb (first_bad_mark marks) (length marks)) (Err (Field (first_bad_mark marks))) Passed refl refl)
    (not_room_then (list_tested list (name_count names)) (tag_tested tag) (not_room_cond (ltb (first_bad_protein list (name_count names)) (length list)) (Err (Field (first_bad_protein list (name_count names)))) Passed refl refl)
    (not_room_cond (ltb 16 (length tag) || ltb (first_bad_tag_byte tag) (length tag)) (Err (Name 0)) Passed refl refl))))))
