-- From the offers, one after the other, to what the public statement says. Assumes nothing.
use Rattle.std.specs.Prelude.{ℕ, ◌+◌, ◌*◌, ◌/◌, ◌≤◌, ◌<◌, Bool, ltb, Ok, Err, Some, None}
use Rattle.std.proofs.Math.Path.{◌≡◌, refl, sym, ap, ap₂}
use Rattle.std.proofs.Common.{◌∙◌, arith}
use Rattle.std.proofs.Math.Bool.{true, false}
use mathlib.Core.List.{List, [], ◌∷◌, ◌++◌, append_assoc, append-nil, foldl, map, map-append}
use Rattle.std.proofs.Math.Numerals.{add-one}
use Rattle.std.proofs.Math.Nat.{min-le_left}
use Rattle.std.proofs.Math.ListN.{length, length-append, length-map}
use Rattle.std.proofs.Math.Seq.{sets}
use borrow.Author.Tests.{ltb-true, ltb-false}
use Rattle.records.specs.declared.refusal.Refusal.TheVariants.{Room}
use Rattle.records.specs.Outcome.{Outcome, outcome}
use Rattle.records.specs.Room.{written, counted}
use Rattle.records.specs.RoomLaws.{Sized, Standing, written_none, written-more, standing-length, standing-done, standing_full}
use Rattle.enzyme_cuts.specs.declared.kinds.Enzyme.{Enzyme}
use Rattle.enzyme_cuts.specs.Cutting.{Range, wanted, candidates, digests, kept, occurs}
use Rattle.enzyme_cuts.specs.Work.{RangesWithin}
use Rattle.enzyme_cuts.specs.InsideLaws.{inside_append}
use Rattle.enzyme_keep.specs.declared.offering.Terms.{Terms}
use Rattle.enzyme_keep.specs.Digests.{record_of}
use Rattle.enzyme_keep.specs.Buffer.{ranges_in}
use Rattle.enzyme_keep.specs.BufferLaws.{length_record, ranges_more}
use Rattle.enzyme_keep.specs.Steps.{Step, digest_room, After, after, decided, offered, unless_full, offers, among}
use Rattle.enzyme_ways.specs.Ways.{way}
use Rattle.enzyme_ways.specs.WayLaws.{way_keeps, way_inside, way_tells}
use Rattle.enzyme_spec.specs.Digestion.{digest_records}
use Rattle.records.specs.Answers.{Counted}

-- the answer to a whole run
abbrev pub run_answer : After → Outcome Counted
run_answer a = go a.step
  where
    go : Step → Outcome Counted
    go (Some count) = outcome (Ok count) (a.bytes ∷ [])
    go None = outcome (Err Room) (a.bytes ∷ [])

-- the record of a range, of which f says how often its letters occur
abbrev record_by : ℕ → ℕ → (Range → ℕ) → Range → List ℕ
record_by n p f r = record_of n p r (f r)

sized : (n p : ℕ) (f : Range → ℕ) (ks : List Range) → Sized 20 (map (record_by n p f) ks)
sized n p f [] = tt
sized n p f (k ∷ ks) = (length_record n p k (f k), sized n p f ks)

-- what is kept stays, in order
extends : (s : List ℕ) (mn mx : ℕ) (ks rest : List Range) → (more : List Range) × (foldl (kept s mn mx) ks rest ≡ ks ++ more)
extends s mn mx ks [] = ([], sym (append-nil ks))
extends s mn mx ks (r ∷ rest) = go (wanted s mn mx ks r) refl (λ qs. extends s mn mx qs rest)
  where
    go : (w : Bool) → wanted s mn mx ks r ≡ w → ((qs : List Range) → (more : List Range) × (foldl (kept s mn mx) qs rest ≡ qs ++ more))
        → (more : List Range) × (foldl (kept s mn mx) (kept s mn mx ks r) rest ≡ ks ++ more)
    go true e ih = let x = ih (ks ++ (r ∷ [])) in (r ∷ x.0, rw e (x.1 ∙ append_assoc ks (r ∷ []) x.0))
    go false e ih = let x = ih ks in (x.0, rw e x.1)

-- the letters, the terms, what is told and the old buffer of a run, and its whole list
record Run : Type 0 where
  s : List ℕ
  terms : Terms
  f : Range → ℕ
  old : List ℕ
  all : List Range
  small : length s ≤ 65536

abbrev recs : Run → List Range → List (List ℕ)
recs run ks = map (record_by (length run.s) run.terms.protein run.f) ks

-- with the candidates rest to come, out holds count records
record State (run : Run) (rest : List Range) (out : List ℕ) (count : ℕ) : Type 0 where
  ks : List Range
  bytes : out ≡ written run.old (recs run ks)
  ranges : ranges_in count out ≡ ks
  number : count ≡ length ks
  free : count ≤ digest_room run.old
  inside : RangesWithin (length run.s) ks
  ahead : foldl (kept run.s run.terms.minimum run.terms.maximum) ks rest ≡ run.all

module _ (run : Run) where
  -- the records that are written, and those behind them
  stands : (ks more : List Range) (out : List ℕ) (count : ℕ) → out ≡ written run.old (recs run ks) → count ≡ length ks → count ≤ digest_room run.old
      → Standing 20 1048576 run.old (recs run (ks ++ more)) (recs run more) out count
  stands ks more out count b n f =
      record { before = recs run ks; split = sym (map-append (record_by (length run.s) run.terms.protein run.f) ks more); bytes = b; number = n ∙ sym (length-map ks (record_by (length run.s) run.terms.protein run.f)); room = f }

  same_length : (rest : List Range) (out : List ℕ) (count : ℕ) → State run rest out count → length out ≡ length run.old
  same_length rest out count st =
      standing-length 20 1048576 run.old (recs run (st.ks ++ [])) (sized (length run.s) run.terms.protein run.f (st.ks ++ [])) [] out count
      (stands st.ks [] out count st.bytes st.number st.free)

  -- the whole list fits
  finished : (out : List ℕ) (count : ℕ) → State run [] out count → outcome (Ok count) (out ∷ []) ≡ counted 20 1048576 run.old (recs run run.all)
  finished out count st =
      let e : st.ks ++ [] ≡ run.all = append-nil st.ks ∙ st.ahead in
      let x = standing-done 20 1048576 run.old (recs run (st.ks ++ [])) (sized (length run.s) run.terms.protein run.f (st.ks ++ [])) out count (stands st.ks [] out count st.bytes st.number st.free) in
      rw (← e, x.1, x.2) (rw (← x.2, ← x.0))

  module _ (r : Range) (rest : List Range) (out : List ℕ) (count : ℕ) (st : State run (r ∷ rest) out count) (h : r.from ≤ r.to) (k : r.to ≤ length run.s) where
    new : List ℕ
    new = record_of (length run.s) run.terms.protein r (run.f r)

    -- the offer, with its two tests as they come out
    onward : (w b : Bool) → wanted run.s run.terms.minimum run.terms.maximum st.ks r ≡ w → ltb count (digest_room run.old) ≡ b
        → (out' : List ℕ) (count' : ℕ) → after (Some count') out' ≡ decided w b count out new → State run rest out' count'
    unfolding new
    onward true true e f out' count' g =
        let p : Some count' ≡ Some (count + 1) = ap (λ (x : After). x.step) g in
        let q : out' ≡ sets out (20 * count) new = ap (λ (x : After). x.bytes) g in
        let c : count' ≡ count + 1 = cc in
        let l : count < digest_room run.old = ltb-true _ _ f in
        let m = min-le_left (length run.old / 20) 1048576 in
        let d : length (recs run st.ks) ≡ length st.ks = length-map st.ks (record_by (length run.s) run.terms.protein run.f) in
        let i : 20 * length (recs run st.ks) + 20 ≤ length run.old = omega (arith, st.number) in
        let j : 20 * count + 20 ≤ length out = omega (arith, same_length (r ∷ rest) out count st) in
        record {
          ks = st.ks ++ (r ∷ []);
          bytes = q ∙ ap₂ (λ (x : List ℕ) (y : ℕ). sets x (20 * y) new) st.bytes (st.number ∙ sym d)
              ∙ written-more 20 run.old (recs run st.ks) new (sized (length run.s) run.terms.protein run.f st.ks) (length_record (length run.s) run.terms.protein r (run.f r)) i
              ∙ ap (written run.old) (sym (map-append (record_by (length run.s) run.terms.protein run.f) st.ks (r ∷ [])));
          ranges = ap₂ ranges_in (c ∙ add-one count) q ∙ ranges_more (length run.s) run.terms.protein r (run.f r) count out j run.small h k ∙ ap (λ (x : List Range). x ++ (r ∷ [])) st.ranges;
          number = omega (arith, c, st.number, length-append st.ks (r ∷ []));
          free = omega arith;
          inside = inside_append (length run.s) st.ks (r ∷ []) st.inside (h, k, tt);
          ahead = rw e at st.ahead;
        }
    onward true false e f out' count' g =
        let p : Some count' ≡ None = ap (λ (x : After). x.step) g in
        let z : ◌≡◌ {A = ℕ} 0 1 = cc in
        absurd (omega arith)
    onward false b e f out' count' g =
        let p : Some count' ≡ Some count = ap (λ (x : After). x.step) g in
        let q : out' ≡ out = ap (λ (x : After). x.bytes) g in
        let c : count' ≡ count = cc in
        record { ks = st.ks; bytes = q ∙ st.bytes; ranges = ap₂ ranges_in c q ∙ st.ranges; number = c ∙ st.number; free = omega (arith, c, st.free); inside = st.inside; ahead = rw e at st.ahead }

    full : (w b : Bool) → wanted run.s run.terms.minimum run.terms.maximum st.ks r ≡ w → ltb count (digest_room run.old) ≡ b
        → (out' : List ℕ) → after None out' ≡ decided w b count out new → outcome (Err Room) (out' ∷ []) ≡ counted 20 1048576 run.old (recs run run.all)
    unfolding new
    full true true e f out' g =
        let p : None ≡ Some (count + 1) = ap (λ (x : After). x.step) g in
        let z : ◌≡◌ {A = ℕ} 0 1 = cc in
        absurd (omega arith)
    full true false e f out' g =
        let q : out' ≡ out = ap (λ (x : After). x.bytes) g in
        let x = extends run.s run.terms.minimum run.terms.maximum (st.ks ++ (r ∷ [])) rest in
        let a : st.ks ++ (r ∷ x.0) ≡ run.all = sym (sym (rw e at st.ahead) ∙ x.1 ∙ append_assoc st.ks (r ∷ []) x.0) in
        let y = standing_full 20 1048576 run.old (recs run (st.ks ++ (r ∷ x.0))) (sized (length run.s) run.terms.protein run.f (st.ks ++ (r ∷ x.0))) new (recs run x.0) out count
        (stands st.ks (r ∷ x.0) out count st.bytes st.number st.free) (ltb-false _ _ f) in
        rw (← a, y.1) (rw (q, ← y.0))
    full false b e f out' g =
        let p : None ≡ Some count = ap (λ (x : After). x.step) g in
        let z : ◌≡◌ {A = ℕ} 0 1 = cc in
        absurd (omega arith)

    stepped : (x : Step) (o : List ℕ) → after x o ≡ offered run.s run.terms run.f r count out
        → ((o : List ℕ) (n : ℕ) → State run rest o n → run_answer (offers run.s run.terms run.f rest n o) ≡ counted 20 1048576 run.old (recs run run.all))
        → run_answer (unless_full (after x o) (offers run.s run.terms run.f rest)) ≡ counted 20 1048576 run.old (recs run run.all)
    unfolding new offered
    stepped (Some n) o f ih = ih o n (onward _ _ refl refl o n (rw (st.ranges, same_length (r ∷ rest) out count st) at f))
    stepped None o f ih = full _ _ refl refl o (rw (st.ranges, same_length (r ∷ rest) out count st) at f)

  -- a run from any state ends as the definition says
  run_ends : (rest : List Range) (out : List ℕ) (count : ℕ) → State run rest out count → RangesWithin (length run.s) rest
      → run_answer (offers run.s run.terms run.f rest count out) ≡ counted 20 1048576 run.old (recs run run.all)
  run_ends [] out count st i = finished out count st
  run_ends (r ∷ rest) out count st i =
      let a = offered run.s run.terms run.f r count out in
      stepped r rest out count st i.0 i.1 a.step a.bytes refl (λ o n t. run_ends rest o n t i.2)

-- what the code offers gives what the definition says
pub run-all : (e : Enzyme) (missed : ℕ) (t : Terms) (s old : List ℕ) → length s ≤ 65536
    → run_answer (offers s t (among s (way e missed t.minimum t.maximum s)) (way e missed t.minimum t.maximum s) 0 old)
    ≡ counted 20 1048576 old (digest_records e missed t.minimum t.maximum t.protein s)
run-all e missed t s old small =
    let told = occurs s (candidates e missed t.minimum t.maximum s) in
    let run : Run = record { s = s; terms = t; f = told; old = old; all = digests e missed t.minimum t.maximum s; small = small } in
    let cs = way e missed t.minimum t.maximum s in
    let st : State run cs old 0 = record { ks = []; bytes = sym (written_none old); ranges = refl; number = refl; free = omega arith; inside = tt; ahead = way_keeps e missed t.minimum t.maximum s } in
    ap run_answer (way_tells e missed t s old) ∙ run_ends run cs old 0 st (way_inside e missed t.minimum t.maximum s)
