-- What a call that passes its tests may count on. Assumes nothing.
use Rattle.std.specs.Prelude.{ℕ, ◌/◌, ◌%◌, ◌≤◌, ◌<◌, ◌+◌, ◌≡◌, false, not, ◌||◌, Bool, List, length, get_or, eqb, ltb}
use Rattle.std.proofs.Common.{arith, ltb-false, eqb-true}
use Rattle.std.proofs.lemmas.Bool.{not-false}
use Rattle.lists.specs.Tests.{neither}
use Rattle.records.specs.declared.refusal.Refusal.TheVariants.{Size, Length, Work}
use Rattle.records.specs.TestedLaws.{passed_first, passed-field, passed-both}
use Rattle.cover_spec.specs.Marks.{work_needed}
use Rattle.cover_edges.specs.Edges.{first_bad_edge, first_bad_mark}
use Rattle.cover_edges.specs.RangeLaws.{InRange, in_range, all_bits}
use Rattle.records.specs.Tested.{and_then, field_tested}
use Rattle.cover_tests.specs.Testing.{too_large, edges_tested, cover_tested, either_too_large, lengths_wrong, update_tested}
use Rattle.records.specs.Answers.{Passed, Tested}

pub record CoverReady (bs : List ℕ) (groups metas words : ℕ) : Type 0 where
  pub groups-max : groups ≤ 131072
  pub metas-max : metas ≤ 262144
  pub few : length bs / 8 ≤ 1048576
  pub enough : work_needed groups metas (length bs / 8) ≤ words
  pub inside : InRange bs (length bs / 8) groups metas

pub record InLimits (n groups metas : ℕ) : Type 0 where
  pub groups-max : groups ≤ 131072
  pub metas-max : metas ≤ 262144
  pub few : n ≤ 1048576

pub in_limits : (n groups metas : ℕ) → too_large n groups metas ≡ false → InLimits n groups metas
in_limits n groups metas h =
    let y = neither (ltb 131072 groups || ltb 262144 metas) (ltb 1048576 n) h in
    let z = neither (ltb 131072 groups) (ltb 262144 metas) y.0 in
    record { groups-max = ltb-false 131072 groups z.0; metas-max = ltb-false 262144 metas z.1; few = ltb-false 1048576 n y.1 }

pub edges_inside : (bs : List ℕ) (groups metas : ℕ) → edges_tested bs groups metas ≡ Passed → InRange bs (length bs / 8) groups metas
edges_inside bs groups metas e =
    in_range bs groups metas (ltb-false (first_bad_edge bs groups metas) (length bs / 8) (passed-field (first_bad_edge bs groups metas) (length bs / 8) e))

pub cover_ready : (bs : List ℕ) (groups metas words : ℕ) → cover_tested bs groups metas words ≡ Passed → CoverReady bs groups metas words
cover_ready bs groups metas words e =
    let n : ℕ = length bs / 8 in
    let p1 = passed_first (too_large n groups metas) Size _ e in
    let p8 = passed_first (not (eqb (length bs % 8) 0)) Length _ p1.1 in
    let p10 = passed_first (ltb words (work_needed groups metas n)) Work _ p8.1 in
    let s = in_limits n groups metas p1.0 in
    record {
      groups-max = s.groups-max;
      metas-max = s.metas-max;
      few = s.few;
      enough = ltb-false words (work_needed groups metas n) p10.0;
      inside = edges_inside bs groups metas p10.1;
    }

pub record UpdateReady (old new : List ℕ) (groups metas : ℕ) (given : List ℕ) (words : ℕ) : Type 0 where
  pub of_new : CoverReady new groups metas words
  pub old_few : length old / 8 ≤ 1048576
  pub old_inside : InRange old (length old / 8) groups metas
  pub enough : work_needed groups metas (length old / 8 + length new / 8) ≤ words
  pub as_many : length given ≡ groups
  pub bits : (i : ℕ) → i < length given → get_or given i 0 ≤ 1

pub both_in_limits : (on nn groups metas : ℕ) → either_too_large on nn groups metas ≡ false → InLimits on groups metas × InLimits nn groups metas
both_in_limits on nn groups metas h = let y = neither (too_large on groups metas) (too_large nn groups metas) h in (in_limits on groups metas y.0, in_limits nn groups metas y.1)

as_many_as : (given : List ℕ) (groups : ℕ) (b : Bool) → (b || not (eqb (length given) groups)) ≡ false → length given ≡ groups
as_many_as given groups b h = eqb-true (length given) groups (not-false (eqb (length given) groups) (neither b (not (eqb (length given) groups)) h).1)

pub update_ready : (old new : List ℕ) (groups metas : ℕ) (given : List ℕ) (words : ℕ) → update_tested old new groups metas given words ≡ Passed → UpdateReady old new groups metas given words
update_ready old new groups metas given words e =
    let on : ℕ = length old / 8 in
    let nn : ℕ = length new / 8 in
    let marked : Tested = field_tested (first_bad_mark given) (length given) in
    let p1 = passed_first (either_too_large on nn groups metas) Size _ e in
    let p8 = passed_first (lengths_wrong old new groups given) Length _ p1.1 in
    let p10 = passed_first (ltb words (work_needed groups metas (on + nn))) Work _ p8.1 in
    let po = passed-both (edges_tested old groups metas) (and_then (edges_tested new groups metas) marked) p10.1 in
    let pn = passed-both (edges_tested new groups metas) marked po.1 in
    let s = both_in_limits on nn groups metas p1.0 in
    let enough : work_needed groups metas (on + nn) ≤ words = ltb-false words (work_needed groups metas (on + nn)) p10.0 in
    record {
      of_new = record {
        groups-max = s.1.groups-max;
        metas-max = s.1.metas-max;
        few = s.1.few;
        enough = omega arith;
        inside = edges_inside new groups metas pn.0;
      };
      old_few = s.0.few;
      old_inside = edges_inside old groups metas po.0;
      enough = enough;
      as_many = as_many_as given groups (not (eqb (length old % 8) 0) || not (eqb (length new % 8) 0)) p8.0;
      bits = all_bits given (ltb-false (first_bad_mark given) (length given) (passed-field (first_bad_mark given) (length given) pn.1));
    }
