-- What an entry that was found is: it lies behind the place read at and within the file, its name is a name of a catalogue, and its
-- letters are letters. And a file may be read in pieces. Assumes nothing.
use Prim.Native.Nat.{ℕ, suc, ◌+◌, ◌-◌, ◌≤◌, ◌<◌}
use Rattle.std.specs.Prelude.{◌≡◌, refl, Bool, true, cond, ◌&&◌, ◌||◌, List, [], ◌∷◌, take, drop, get_or, ltb, leb, eqb, Ok, Err, Some, None}
use Rattle.std.proofs.Common.{sym, ap, subst, ◌∙◌, arith, length-take, length-drop, take_at, take_all, ltb-true, ltb-false, lt-ltb, le-ltb, leb-true, eqb-true}
use Rattle.std.proofs.Math.Bool.{false}
use Rattle.std.proofs.Math.Logic.{⊎_elim}
use Rattle.std.proofs.Math.ListN.{length, get_or-eq_default}
use Rattle.std.proofs.lemmas.List.{length-map}
use Rattle.std.proofs.lemmas.List.Edits.{sets, sets-eq}
use Rattle.lists.specs.Lists.{All}
use Rattle.lists.specs.Tests.{below?, both, clash}
use Rattle.records.specs.declared.refusal.Refusal.{Refusal}
use Rattle.records.specs.declared.refusal.Refusal.TheVariants.{Field, Room, Stray}
use Rattle.records.specs.Outcome.{Outcome, outcome, unless_refused}
use Rattle.records.specs.Room.{fits, fitted, singly}
use Rattle.records.specs.RoomLaws.{stored-text, fits-text, stored_one, full_one}
use Rattle.records.specs.Search.{seek}
use Rattle.records.specs.SearchLaws.{seek-to, seek-from, seek-passes, seek_before}
use Rattle.letters.specs.Letters.{is_capital, capital, capitals, is_letter}
use Rattle.catalogue_spec.specs.Names.{hidden, non_zero, name_length, zeros_to, is_name, padded}
use Rattle.catalogue_spec.specs.NameLaws.{seek_is}
use Rattle.fasta_lines.specs.declared.runs.Run.TheVariants.{Ends, Letters}
use Rattle.fasta_lines.specs.Lines.{line_end, run_of, together, entry_length}
use Rattle.fasta_lines.specs.LineLaws.{run-bound}
use Rattle.fasta.specs.declared.entry.Entry.{Entry}
use Rattle.fasta.specs.declared.entry.Fault.TheVariants.{Long, Refused}
use Rattle.fasta.specs.Entries.{Read, entry_name, entry_lines, entry_letters, too_long, good_name, entry_tested, given_outcome, entry_outcome, opened_outcome, file_outcome, read_outcome}
use Rattle.fasta.specs.EntryLaws.{length-padded, padded-at, passed_good, passed_name, passed-letters}
use Rattle.records.specs.Answers.{Passed, Tested}

-- ---- an entry that was found is no other answer

answered : {A : Type 0} {a b : A} {k l : List (List ℕ)} → outcome a k ≡ outcome b l → a ≡ b
answered {A} e = ap (λ (o : Outcome A). o.answer) e

module _ (f : Entry) {φ : Type 0} where
  not-refused : (why : Refusal) → Ok (Some f) ≡ Err (Refused why) → φ
  not-refused why e = let z : ◌≡◌ {A = ℕ} 0 1 = cc in absurd (let f : ⊥ = omega arith in f)

  not_nothing : ◌≡◌ {A = Read} (Ok (Some f)) (Ok None) → φ
  not_nothing e = let z : ◌≡◌ {A = ℕ} 0 1 = cc in absurd (let f : ⊥ = omega arith in f)

  not_long : (at : ℕ) → Ok (Some f) ≡ Err (Long at) → φ
  not_long at e = let z : ◌≡◌ {A = ℕ} 0 1 = cc in absurd (let f : ⊥ = omega arith in f)

-- ---- it is an entry of the file that passed, and was given

record Entered (f : Entry) (k : List (List ℕ)) (bytes : List ℕ) (at : ℕ) (n l : List ℕ) : Type 0 where
  q : ℕ
  e : List ℕ
  begins : at ≤ q
  ends : q + 1 + length e ≤ length bytes
  short : too_long e ≡ false
  passed : entry_tested q e ≡ Passed
  given : outcome (Ok (Some f)) k ≡ given_outcome q e n l

module _ (f : Entry) (k : List (List ℕ)) (n l : List ℕ) where
  entry-passed : (q : ℕ) (e : List ℕ) → outcome (Ok (Some f)) k ≡ entry_outcome q e n l → (too_long e ≡ false) × (entry_tested q e ≡ Passed) × (outcome (Ok (Some f)) k ≡ given_outcome q e n l)
  entry-passed q e h = go (too_long e) (entry_tested q e) refl refl h
    where
      go : (t : Bool) (u : Tested) → too_long e ≡ t → entry_tested q e ≡ u
          → outcome (Ok (Some f)) k ≡ cond t (outcome (Err (Long q)) (n ∷ l ∷ [])) (unless_refused u (λ why. Err (Refused why)) (n ∷ l ∷ []) (given_outcome q e n l))
          → (too_long e ≡ false) × (entry_tested q e ≡ Passed) × (outcome (Ok (Some f)) k ≡ given_outcome q e n l)
      go true u a b g = not_long f q (answered g)
      go false (Err why) a b g = not-refused f why (answered g)
      go false (Ok _) a b g = (a, b, g)

  opened_passed : (q : ℕ) (s : List ℕ) → outcome (Ok (Some f)) k ≡ opened_outcome q s n l
      → (e : List ℕ) × (suc (length e) ≤ length s) × (too_long e ≡ false) × (entry_tested q e ≡ Passed) × (outcome (Ok (Some f)) k ≡ given_outcome q e n l)
  opened_passed q [] h = not_nothing f (answered h)
  opened_passed q (b ∷ s) h = go (eqb b 62) h
    where
      go : (t : Bool) → outcome (Ok (Some f)) k ≡ cond t (entry_outcome q (take (entry_length s) s) n l) (outcome (Err (Refused (Stray q))) (n ∷ l ∷ []))
          → (e : List ℕ) × (suc (length e) ≤ suc (length s)) × (too_long e ≡ false) × (entry_tested q e ≡ Passed) × (outcome (Ok (Some f)) k ≡ given_outcome q e n l)
      go false g = not-refused f (Stray q) (answered g)
      go true g = let e = take (entry_length s) s in let p = entry-passed q e g in (e, omega (arith, length-take (entry_length s) s), p.0, p.1, p.2)

  entered : (bytes : List ℕ) (at : ℕ) → outcome (Ok (Some f)) k ≡ read_outcome bytes at n l → Entered f k bytes at n l
  entered bytes at h = go (ltb (length bytes) at) refl h
    where
      go : (t : Bool) → ltb (length bytes) at ≡ t → outcome (Ok (Some f)) k ≡ cond t (outcome (Err (Refused (Field 0))) (n ∷ l ∷ [])) (file_outcome at (drop at bytes) n l) → Entered f k bytes at n l
      go true a g = not-refused f (Field 0) (answered g)
      go false a g =
          let s = drop at bytes in
          let r = run_of Ends s in
          let o = opened_passed (at + r) (drop r s) g in
          record {
            q = at + r;
            e = o.0;
            begins = omega arith;
            ends = omega (arith, o.1, ltb-false (length bytes) at a, run-bound Ends s, length-drop r s, length-drop at bytes);
            short = o.2;
            passed = o.3;
            given = o.4;
          }

-- what was given has room
record Given (f : Entry) (k : List (List ℕ)) (q : ℕ) (e n l : List ℕ) : Type 0 where
  named : fits 64 1 n (padded (entry_name e) ∷ []) ≡ true
  spelt : fits 1 65536 l (singly (capitals (entry_letters e))) ≡ true
  next : f.next ≡ q + 1 + length e
  count : f.letters ≡ length (entry_letters e)
  lent : k ≡ fitted 64 1 n (padded (entry_name e) ∷ []) ∷ fitted 1 65536 l (singly (capitals (entry_letters e))) ∷ []

given_room : (f : Entry) (k : List (List ℕ)) (q : ℕ) (e n l : List ℕ) → outcome (Ok (Some f)) k ≡ given_outcome q e n l → Given f k q e n l
given_room f k q e n l h = go (fits 64 1 n (padded (entry_name e) ∷ [])) (fits 1 65536 l (singly (capitals (entry_letters e)))) refl refl (ap (λ (o : Outcome Read). o.answer) h)
  where
    go : (t u : Bool) → fits 64 1 n (padded (entry_name e) ∷ []) ≡ t → fits 1 65536 l (singly (capitals (entry_letters e))) ≡ u
        → Ok (Some f) ≡ cond (t && u) (Ok (Some (record { next = q + 1 + length e; letters = length (entry_letters e) }))) (Err (Refused Room)) → Given f k q e n l
    go true true a b g = record { named = a; spelt = b; next = cc; count = cc; lent = ap (λ (o : Outcome Read). o.lent) h }
    go true false a b g = not-refused f Room g
    go false u a b g = not-refused f Room g

-- ---- a text that was stored is read back

taken : (t old : List ℕ) → length t ≤ length old → take (length t) (sets old 0 t) ≡ t
taken t old h = ap (take (length t)) (sets-eq t old 0 (omega arith)) ∙ take_at t (drop (0 + length t) old) (length t) refl

name_taken : (r old : List ℕ) → length r ≡ 64 → fits 64 1 old (r ∷ []) ≡ true → take 64 (fitted 64 1 old (r ∷ [])) ≡ r
name_taken r old is f = ⊎_elim (λ (h : length old < 64). clash f (full_one 64 r old is (omega arith) h)) stored (below? (length old) 64)
  where
    stored : 64 ≤ length old → take 64 (fitted 64 1 old (r ∷ [])) ≡ r
    stored h =
        ap (take 64) (sym (stored_one 64 r old is (omega arith) h))
        ∙ ap (λ (m : ℕ). take m (sets old 0 r)) (sym is)
        ∙ taken r old (omega arith)

text_taken : (t old : List ℕ) → length t ≤ 65536 → fits 1 65536 old (singly t) ≡ true → take (length t) (fitted 1 65536 old (singly t)) ≡ t
text_taken t old h f =
    ap (take (length t)) (sym (stored-text 65536 t old h))
    ∙ taken t old (leb-true (length t) (length old) (sym (fits-text 65536 t old h) ∙ f))

-- ---- the record of a good name is a name

module _ (t : List ℕ) (g : good_name t ≡ true) where
  tests : (0 < length t) × (length t ≤ 64) × (name_length t ≡ length t)
  tests =
      let a = both (ltb 0 (length t) && leb (length t) 64) (eqb (name_length t) (length t)) g in
      let b = both (ltb 0 (length t)) (leb (length t) 64) a.0 in
      (ltb-true 0 (length t) b.0, leb-true (length t) 64 b.1, eqb-true (name_length t) (length t) a.1)

  size : length (padded t) ≡ 64
  size = length-padded t tests.1

  -- behind the name stand zeros
  zero-at : (j : ℕ) → length t ≤ j → get_or (padded t) j 0 ≡ 0
  zero-at j h = padded-at t j ∙ get_or-eq_default t 0 h

  name_ends : name_length (padded t) ≡ length t
  unfolding name_length
  name_ends = seek_is (hidden (padded t)) (length (padded t)) (length t) (omega (arith, size, tests.1)) inside behind
    where
      inside : (j : ℕ) → j < length t → hidden (padded t) j ≡ false
      inside j h = rw (padded-at t j) (seek_before (hidden t) 0 (length t) j (omega arith) (omega (arith, tests.2)))

      behind : length t < length (padded t) → hidden (padded t) (length t) ≡ true
      behind h = rw (zero-at (length t) (omega arith)) refl

  zeros_end : zeros_to (padded t) (length t) ≡ 64
  unfolding zeros_to
  zeros_end = ⊎_elim none (λ (h : 64 ≤ at). omega (arith, seek-to (non_zero (padded t)) (length t) (length (padded t) - length t), size, tests.1)) (below? at 64)
    where
      at : ℕ
      at = seek (non_zero (padded t)) (length t) (length (padded t) - length t)

      none : at < 64 → at ≡ 64
      none h =
          let p : non_zero (padded t) at ≡ true = seek-passes (non_zero (padded t)) (length t) (length (padded t) - length t) (omega (arith, size, tests.1)) in
          let z : non_zero (padded t) at ≡ false = rw (zero-at at (seek-from (non_zero (padded t)) (length t) (length (padded t) - length t))) refl in
          clash p z

  good_is_name : is_name (padded t) ≡ true
  good_is_name = rw (name_ends, zeros_end, size, lt-ltb 0 (length t) tests.0) refl

-- ---- lines of letters put together are letters

all-letters : (s : List ℕ) → run_of Letters s ≡ length s → All (λ (b : ℕ). is_letter b ≡ true) (together s)
all-letters [] h = tt
all-letters (b ∷ s) h = go (line_end b (get_or s 0 0)) (is_letter b) refl h (all-letters s)
  where
    go : (t u : Bool) → is_letter b ≡ u → cond (t || u) (suc (run_of Letters s)) 0 ≡ suc (length s)
        → (run_of Letters s ≡ length s → All (λ (b : ℕ). is_letter b ≡ true) (together s)) → All (λ (b : ℕ). is_letter b ≡ true) (cond t (together s) (b ∷ together s))
    go true u e f rest = rest (omega arith)
    go false true e f rest = (e, rest (omega arith))
    go false false e f rest = absurd (omega arith)

all-capitals : (s : List ℕ) → All (λ (b : ℕ). is_letter b ≡ true) s → All (λ (b : ℕ). is_capital b ≡ true) (capitals s)
unfolding is_letter
all-capitals [] h = tt
all-capitals (b ∷ s) h = (h.0, all-capitals s h.1)

-- ---- what an entry that was found is

module _ (f : Entry) (bytes : List ℕ) (at : ℕ) (n l : List ℕ) where
  -- the place behind it lies past the place read at, and within the file
  pub found_moves : (k : List (List ℕ)) → outcome (Ok (Some f)) k ≡ read_outcome bytes at n l → (at < f.next) × (f.next ≤ length bytes)
  found_moves k h =
      let x = entered f k n l bytes at h in
      let g = given_room f k x.q x.e n l x.given in
      (omega (arith, x.begins, g.next), omega (arith, x.ends, g.next))

  module _ (name letters : List ℕ) (h : outcome (Ok (Some f)) (name ∷ letters ∷ []) ≡ read_outcome bytes at n l) where
    found : Entered f (name ∷ letters ∷ []) bytes at n l
    found = entered f (name ∷ letters ∷ []) n l bytes at h

    room : Given f (name ∷ letters ∷ []) found.q found.e n l
    room = given_room f (name ∷ letters ∷ []) found.q found.e n l found.given

    -- its record is a name: of a catalogue of such records 12 is never said
    pub found_name : is_name (take 64 name) ≡ true
    found_name =
        let t = entry_name found.e in
        let e : name ≡ fitted 64 1 n (padded t ∷ []) = ap (λ (k : List (List ℕ)). get_or k 0 []) room.lent in
        rw (e, name_taken (padded t) n (length-padded t (passed_name found.q found.e found.passed)) room.named) (good_is_name t (passed_good found.q found.e found.passed))

    -- so many bytes are letters, as capitals, at most a protein's
    pub found_letters : (f.letters ≤ 65536) × All (λ (b : ℕ). is_capital b ≡ true) (take f.letters letters)
    found_letters =
        let t = entry_letters found.e in
        let e : letters ≡ fitted 1 65536 l (singly (capitals t)) = ap (λ (k : List (List ℕ)). get_or k 1 []) room.lent in
        let few : length t ≤ 65536 = ltb-false 65536 (length t) found.short in
        let same : length (capitals t) ≡ length t = length-map t capital in
        let read : take f.letters letters ≡ capitals t = ap (λ (m : ℕ). take m letters) (room.count ∙ sym same) ∙ ap (take (length (capitals t))) e ∙ text_taken (capitals t) l (omega (arith, same, few)) room.spelt in
        let good : All (λ (b : ℕ). is_capital b ≡ true) (capitals t) = all-capitals t (all-letters (entry_lines found.e) (passed-letters found.q found.e found.passed)) in
        (omega (arith, room.count, few), subst (All (λ (b : ℕ). is_capital b ≡ true)) (sym read) good)

-- ---- a piece that goes from a `>` up to the next line that starts with one reads as the file does

-- the piece ends where it is cut
length_again : (s : List ℕ) → entry_length (take (entry_length s) s) ≡ entry_length s
length_again [] = refl
length_again (b ∷ s) = go (eqb b 10 && eqb (get_or s 0 0) 62) refl (length_again s)
  where
    -- what stands behind a byte that is passed by is the same
    next : get_or (take (entry_length s) s) 0 0 ≡ get_or s 0 0
    next = head s
      where
        head : (s : List ℕ) → get_or (take (entry_length s) s) 0 0 ≡ get_or s 0 0
        head [] = refl
        head (c ∷ r) = refl

    one : (t : Bool) → suc (cond t 0 0) ≡ 1
    one true = refl
    one false = refl

    go : (t : Bool) → (eqb b 10 && eqb (get_or s 0 0) 62) ≡ t → entry_length (take (entry_length s) s) ≡ entry_length s
        → entry_length (take (suc (cond t 0 (entry_length s))) (b ∷ s)) ≡ suc (cond t 0 (entry_length s))
    go true e h = one (eqb b 10 && eqb 0 62)
    go false e h = let f : (eqb b 10 && eqb (get_or (take (entry_length s) s) 0 0) 62) ≡ false = rw next e in rw (f, h)

pub piece_reads : (s n l : List ℕ) → read_outcome (62 ∷ take (entry_length s) s) 0 n l ≡ read_outcome (62 ∷ s) 0 n l
piece_reads s n l =
    let p : List ℕ = take (entry_length s) s in
    let e : take (entry_length p) p ≡ p = take_all (entry_length p) p (omega (arith, length_again s, length-take (entry_length s) s)) in
    let f : ltb (length (62 ∷ p)) 0 ≡ false = le-ltb (length (62 ∷ p)) 0 (omega arith) in
    let g : ltb (length (62 ∷ s)) 0 ≡ false = le-ltb (length (62 ∷ s)) 0 (omega arith) in
    rw (f, g) (ap (λ (z : List ℕ). entry_outcome 0 z n l) e)
