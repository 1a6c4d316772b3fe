-- What a call of `report_line` makes of a table, and what its answer is. Assumes nothing.
use Rattle.std.specs.Prelude.{ℕ, ◌+◌, ◌*◌, ◌/◌, ◌≤◌, ◌≡◌, refl, Bool, true, false, cond, ◌&&◌, List, [], ◌∷◌, length, get_or, replicate, leb, eqb, Ok, Err}
use Rattle.std.proofs.Common.{ap, ◌∙◌, arith, leb-true}
use Rattle.std.proofs.lemmas.List.{length-replicate}
use Rattle.std.proofs.lemmas.Bool.{not-true}
use Rattle.lists.specs.FrameLaws.{zeros_at}
use Rattle.report_lines_tests.specs.Testing.{contents, tested}
use Rattle.catalogue_repeats.specs.Repeating.{cleared}
use Rattle.catalogue_names.specs.NamesInLaws.{names_in}
use Rattle.catalogue_repeats.specs.RepeatingLaws.{length-cleared, cleared_zeros}
use Rattle.lists.specs.Tests.{both}
use Rattle.records.specs.declared.refusal.Refusal.TheVariants.{Room}
use Rattle.catalogue_spec.specs.Names.{name_count, names_tested}
use Rattle.catalogue_names.specs.NamesIn.{names_outcome}
use Rattle.records.specs.Outcome.{Outcome, outcome, unless_refused}
use Rattle.records.specs.Refusals.{number_of}
use Rattle.records.specs.Room.{fitted, singly}
use Rattle.protein_groups_members.specs.Members.{members_in}
use Rattle.report_lines_spec.specs.Stretches.{Stretched}
use Rattle.report_lines_select.specs.Laying.{Given}
use Rattle.report_lines_write.specs.Laid.{line_in, count_in}
use Rattle.report_lines_write.specs.LineLaws.{Tag, line_is, count_is}
use Rattle.report_lines_spec.specs.Line.{line_text, line_count}
use Rattle.report_lines_tests.specs.TestingLaws.{fair_sizes, line_few_names, line-whole-names, GoodLine, Fair, not_room, not_room_tested}
use Rattle.report_lines.specs.declared.reporting.Report.{Report}
use Rattle.report_lines.specs.Reporting.{Reported, reported_of, line_lined, line_outcome}
use Rattle.records.specs.Answers.{Passed, Tested}

-- ---- the line by a table

-- what a call leaves where sizes and lengths passed
abbrev pub line_told : List ℕ → List ℕ → List ℕ → List ℕ → Bool → List ℕ → Bool → List ℕ → Outcome Reported
line_told names members marks list decoy tag generated out =
    unless_refused (contents names members marks list tag) Err (out ∷ []) (line_lined names members marks list decoy tag generated out)

-- a table of zeros with areas of c numbers, each large enough
pub record LineTable (names members marks w : List ℕ) (c : ℕ) : Type 0 where
  pub few_names : name_count names ≤ c
  pub few_members : length members / 12 ≤ c
  pub few_marks : length marks ≤ c
  pub most : c ≤ 131072
  pub long : 3 * c + 18 ≤ length w
  pub zeros : (i : ℕ) → get_or w i 0 ≡ 0

-- fair lists with at most c names, members and marks
pub record Fitting (names members marks list : List ℕ) (c : ℕ) : Type 0 where
  pub fair : Fair names members marks list
  pub few_names : name_count names ≤ c
  pub few_members : length members / 12 ≤ c
  pub few_marks : length marks ≤ c

module _ {names members marks list : List ℕ} (f : Fair names members marks list) where
  pub fitting_of : (c : ℕ) → (leb (name_count names) c && leb (length members / 12) c && leb (length marks) c) ≡ true → Fitting names members marks list c
  fitting_of c e =
      let x = both (leb (name_count names) c && leb (length members / 12) c) (leb (length marks) c) e in
      let y = both (leb (name_count names) c) (leb (length members / 12) c) x.0 in
      record { fair = f; few_names = leb-true _ c y.0; few_members = leb-true _ c y.1; few_marks = leb-true _ c x.1 }

  -- all fair lists do with the largest c
  pub fitting_most : Fitting names members marks list 131072
  fitting_most = let s = fair_sizes f in record { fair = f; few_names = omega (arith, s.few_names); few_members = s.few_members; few_marks = s.few_marks }

-- a table of the call's own: n zeros are enough for lists that fit c
pub own-table : {names members marks list : List ℕ} (c n : ℕ) → Fitting names members marks list c → c ≤ 131072 → 3 * c + 18 ≤ n
    → Fair names members marks list × LineTable names members marks (replicate n 0) c
own-table c n f h k = (
  f.fair,
  record {
    few_names = f.few_names;
    few_members = f.few_members;
    few_marks = f.few_marks;
    most = h;
    long = omega (arith, length-replicate {A = ℕ} n 0);
    zeros = zeros_at n;
  },
)

-- the names are tested in it, and it is zero again
pub names-told : {names members marks list w : List ℕ} {c : ℕ} → Fair names members marks list → LineTable names members marks w c → {r : Tested} {t : List ℕ}
    → outcome r (t ∷ []) ≡ names_outcome names w → (r ≡ names_tested names) × (t ≡ cleared (name_count names) w)
names-told {names} {members} {marks} {list} {w} f b {r} {t} e =
    only_one r (names_tested names) t (cleared (name_count names) w)
    (e ∙ names_in names w (line_few_names names members marks list f.small) (line-whole-names names members f.even) (omega (arith, b.few_names, b.long)))
  where
    head : List (List ℕ) → List ℕ
    head [] = []
    head (l ∷ ls) = l

    only_one : (r q : Tested) (t u : List ℕ) → outcome r (t ∷ []) ≡ outcome q (u ∷ []) → (r ≡ q) × (t ≡ u)
    only_one r q t u g = (ap (λ (o : Outcome Tested). o.answer) g, ap (λ (o : Outcome Tested). head o.lent) g)

module _ {names members marks list tag : List ℕ} (good : GoodLine names members marks list tag) where
  pub good_tag : Tag tag
  good_tag = record { short = good.short; shown = good.shown }

  pub good_given : {w t : List ℕ} {c : ℕ} → LineTable names members marks w c → t ≡ cleared (name_count names) w → Given members marks list tag t c
  good_given {w} b e = record {
    small = b.most;
    groups = b.few_marks;
    few = b.few_members;
    under = λ i h. (good.held i h).group;
    low = λ i h. omega (arith, (good.held i h).protein, b.few_names);
    listed = λ i h. omega (arith, good.listed i h, b.few_names);
    short = good.short;
    long = omega (arith, b.long, ap length e ∙ length-cleared (name_count names) w (omega (arith, b.few_names, b.long)));
    zeros = λ i. ap (λ (x : List ℕ). get_or x i 0) e ∙ cleared_zeros (name_count names) w b.zeros i;
  }

-- THE LAW: what is read off the table is what a call answers
pub line-outcome : (names members marks list : List ℕ) (decoy : Bool) (tag : List ℕ) (generated : Bool) (w : List ℕ) (c : ℕ)
    → Stretched names (members_in members) marks list decoy tag generated w c → c ≤ 131072 → Tag tag → (old new : List ℕ) (bytes groups : ℕ) (r : Reported)
    → (new ≡ fitted 1 (length old) old (singly (line_in names w c (length marks)))) × (bytes ≡ length (line_in names w c (length marks))) × (groups ≡ count_in w c (length marks))
    → r ≡ reported_of bytes groups (length old)
    → outcome r (new ∷ []) ≡ line_lined names members marks list decoy tag generated old
line-outcome names members marks list decoy tag generated w c s few t old new bytes groups r p e =
    let text = line_is names (members_in members) marks list decoy tag generated w c s few t in
    let count = count_is names (members_in members) marks list decoy tag generated w c s few t in
    rw (e, p.0, p.1, p.2, text, count)

-- ---- what an answer tells of the tests

abbrev pub tests_of : Reported → Tested
tests_of (Ok p) = Passed
tests_of (Err why) = cond (eqb (number_of why) 11) Passed (Err why)

-- THE LAW
pub tests_told : (names members marks list tag : List ℕ) (decoy generated : Bool) (out : List ℕ) → tests_of (line_outcome names members marks list decoy tag generated out).answer ≡ tested names members marks list tag
tests_told names members marks list tag decoy generated out = go (tested names members marks list tag) (not_room_tested names members marks list tag)
  where
    text : List ℕ
    text = line_text names (members_in members) marks list decoy tag generated

    either : (b : Bool) (p : Report) → tests_of (cond b (Ok p) (Err Room)) ≡ Passed
    either true p = refl
    either false p = refl

    go : (t : Tested) → not_room t ≡ true → tests_of (unless_refused t Err (out ∷ []) (line_lined names members marks list decoy tag generated out)).answer ≡ t
    go (Ok _) h = either (leb (length text) (length out)) (record { bytes = length text; groups = line_count (members_in members) marks list decoy })
    go (Err why) h = let e : eqb (number_of why) 11 ≡ false = not-true (eqb (number_of why) 11) h in rw e
