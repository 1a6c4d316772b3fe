-- What the code of reading shows, in the words of the definitions. Assumes nothing.
use Rattle.std.specs.Prelude.{ℕ, zero, suc, ◌+◌, ◌-◌, ◌≤◌, ◌<◌, ◌≡◌, refl, true, false, cond, ◌&&◌, List, [], ◌∷◌, ◌++◌, length, take, drop, get_or, set, replicate, ltb, leb, eqb, Err, Some, None, Ok}
use Rattle.std.proofs.Common.{sym, ap, ◌∙◌, ⊎_elim, arith, add-one, drop_of_length-le, length-append, drop-cons, drop-drop, lt-ltb, le-ltb, le-leb, leb-true, ltb-false, eq-eqb, ne_eqb}
use Rattle.std.proofs.Math.Nat.{add-sub_cancel_left}
use Rattle.std.proofs.lemmas.List.{length-map, length-replicate}
use Rattle.std.proofs.lemmas.List.Edits.{sets}
use Rattle.std.proofs.lemmas.Bool.{lt-leb}
use Rattle.lists.specs.Tests.{below?, both}
use Rattle.lists.specs.FrameLaws.{zeros_at}
use Rattle.records.specs.declared.refusal.Refusal.{Refusal}
use Rattle.records.specs.declared.refusal.Refusal.TheVariants.{Letter, Field, Room, Name, Stray}
use Rattle.records.specs.Outcome.{outcome}
use Rattle.records.specs.Room.{fits, fitted, singly}
use Rattle.records.specs.TestedLaws.{passed_first, passed-second}
use Rattle.records.specs.RoomLaws.{stored-text, fits-text, fits_one, full_one}
use Rattle.records.specs.StoreLaws.{store_on}
use Rattle.letters.specs.Letters.{capital, capitals}
use Rattle.sorting_spec.specs.PartLaws.{rest_all}
use Rattle.catalogue_spec.specs.Names.{name_length, padded}
use Rattle.fasta_lines.specs.declared.runs.Run.TheVariants.{Ends, Line, Letters}
use Rattle.fasta_lines.specs.Lines.{run_of, entry_length}
use Rattle.fasta_lines.specs.LineLaws.{run-bound}
use Rattle.fasta.specs.declared.entry.Fault.TheVariants.{Long, Refused}
use Rattle.fasta.specs.Entries.{entry_name, entry_lines, entry_letters, too_long, good_name, good_letters, entry_tested, given_outcome, entry_outcome, opened_outcome, read_outcome}
use Rattle.records.specs.Answers.{Passed}

-- ---- a text as a record

pub length-padded : (t : List ℕ) → length t ≤ 64 → length (padded t) ≡ 64
length-padded t h = length-append t (replicate (64 - length t) 0) ∙ ap (λ (n : ℕ). length t + n) (length-replicate (64 - length t) 0) ∙ omega arith

-- past the text it reads as the text does there: 0
pub padded-at : (t : List ℕ) (i : ℕ) → get_or (padded t) i 0 ≡ get_or t i 0
padded-at t i = behind t (64 - length t) i
  where
    behind : (t : List ℕ) (n i : ℕ) → get_or (t ++ replicate n 0) i 0 ≡ get_or t i 0
    behind [] n i = zeros_at n i
    behind (b ∷ t) n zero = refl
    behind (b ∷ t) n (suc i) = behind t n i

pub padded-stored : (out t : List ℕ) (i : ℕ) → length t ≤ 64 → i < 64 → sets (set out i (get_or t i 0)) (i + 1) (drop (i + 1) (padded t)) ≡ sets out i (drop i (padded t))
padded-stored out t i h k =
    ap (λ (b : ℕ). sets (set out i b) (i + 1) (drop (i + 1) (padded t))) (sym (padded-at t i)) ∙ store_on out (padded t) i i (omega (arith, length-padded t h))

good_name_length : (n : List ℕ) → good_name n ≡ true → length n ≤ 64
good_name_length n e = leb-true (length n) 64 (both (ltb 0 (length n)) (leb (length n) 64) (both (ltb 0 (length n) && leb (length n) 64) (eqb (name_length n) (length n)) e).0).1

-- ---- the tests of an entry

pub lines_part : (e : List ℕ) (h : ℕ) → h ≡ run_of Line e → take (length e - h) (drop h e) ≡ entry_lines e
lines_part e h p = rest_all h e ∙ ap (λ (z : ℕ). drop z e) p

module _ (q : ℕ) (e : List ℕ) where
  pub tested_12 : good_name (entry_name e) ≡ false → Err (Name (q + 1)) ≡ entry_tested q e
  tested_12 b = rw b

  module _ (b : good_name (entry_name e) ≡ true) where
    pub tested_2 : ltb (good_letters e) (length (entry_lines e)) ≡ true → (h k : ℕ) → h ≡ run_of Line e → k ≡ good_letters e → Err (Letter (q + 1 + h + k)) ≡ entry_tested q e
    tested_2 t h k i j = rw (b, t) (cc)

    pub tested-passed : ltb (good_letters e) (length (entry_lines e)) ≡ false → Passed ≡ entry_tested q e
    tested-passed t = rw (b, t)

  -- an entry that passed has a name that fits its record, and no bad byte
  module _ (p : entry_tested q e ≡ Passed) where
    tests : (good_name (entry_name e) ≡ true) × (ltb (good_letters e) (length (entry_lines e)) ≡ false)
    tests =
        let n = passed-second (good_name (entry_name e)) (Name (q + 1)) (cond (ltb (good_letters e) (length (entry_lines e))) (Err (Letter (q + 1 + run_of Line e + good_letters e))) Passed) p in
        (n.0, (passed_first (ltb (good_letters e) (length (entry_lines e))) (Letter (q + 1 + run_of Line e + good_letters e)) Passed n.1).0)

    pub passed_good : good_name (entry_name e) ≡ true
    passed_good = tests.0

    pub passed_name : length (entry_name e) ≤ 64
    passed_name = good_name_length (entry_name e) tests.0

    pub passed-letters : good_letters e ≡ length (entry_lines e)
    passed-letters = omega (arith, ltb-false (good_letters e) (length (entry_lines e)) tests.1, run-bound Letters (entry_lines e))

-- ---- a good entry: it fits, or not

module _ (q : ℕ) (e name letters : List ℕ) (short : length (entry_name e) ≤ 64) (few : length (entry_letters e) ≤ 65536) where
  fits_name : fits 64 1 name (padded (entry_name e) ∷ []) ≡ leb 64 (length name)
  fits_name =
      let l = length-padded (entry_name e) short in
      ⊎_elim (λ (h : length name < 64). full_one 64 (padded (entry_name e)) name l (omega arith) h ∙ sym (lt-leb 64 (length name) h))
      (λ (h : 64 ≤ length name). fits_one 64 (padded (entry_name e)) name l (omega arith) h ∙ sym (le-leb 64 (length name) h)) (below? (length name) 64)

  same : length (capitals (entry_letters e)) ≡ length (entry_letters e)
  same = length-map (entry_letters e) capital

  fits-letters : fits 1 65536 letters (singly (capitals (entry_letters e))) ≡ leb (length (entry_letters e)) (length letters)
  fits-letters = fits-text 65536 (capitals (entry_letters e)) letters (omega (arith, same)) ∙ ap (λ (n : ℕ). leb n (length letters)) same

  pub stored-letters : sets letters 0 (capitals (entry_letters e)) ≡ fitted 1 65536 letters (singly (capitals (entry_letters e)))
  stored-letters = stored-text 65536 (capitals (entry_letters e)) letters (omega (arith, same))

  module _ (m : ℕ) (n l : List ℕ) (i : m ≡ length (entry_letters e)) (j : n ≡ fitted 64 1 name (padded (entry_name e) ∷ [])) (k : l ≡ sets letters 0 (capitals (entry_letters e))) where
    pub given_found : (leb 64 (length name) && leb m (length letters)) ≡ true → outcome (Ok (Some (record { next = q + 1 + length e; letters = m }))) (n ∷ l ∷ []) ≡ given_outcome q e name letters
    given_found f =
        let g : (leb 64 (length name) && leb (length (entry_letters e)) (length letters)) ≡ true = rw i at f in
        rw (fits_name, fits-letters, g, i, j, k ∙ stored-letters)

    pub given_short : (leb 64 (length name) && leb m (length letters)) ≡ false → outcome (Err (Refused Room)) (n ∷ l ∷ []) ≡ given_outcome q e name letters
    given_short f =
        let g : (leb 64 (length name) && leb (length (entry_letters e)) (length letters)) ≡ false = rw i at f in
        rw (fits_name, fits-letters, g, j, k ∙ stored-letters)

-- ---- an entry: 1, then what the tests say, then what is given

module _ (q : ℕ) (e name letters : List ℕ) where
  pub entry_1 : too_long e ≡ true → outcome (Err (Long q)) (name ∷ letters ∷ []) ≡ entry_outcome q e name letters
  entry_1 h = rw h

  pub entry-refused : too_long e ≡ false → (why : Refusal) → entry_tested q e ≡ Err why → outcome (Err (Refused why)) (name ∷ letters ∷ []) ≡ entry_outcome q e name letters
  entry-refused h why p = rw (h, p)

  pub entry_given : too_long e ≡ false → entry_tested q e ≡ Passed → given_outcome q e name letters ≡ entry_outcome q e name letters
  entry_given h p = rw (h, p)

-- ---- reading at a place

module _ (bytes : List ℕ) (at : ℕ) (n l : List ℕ) where
  pub read_9 : length bytes < at → outcome (Err (Refused (Field 0))) (n ∷ l ∷ []) ≡ read_outcome bytes at n l
  read_9 h = rw (lt-ltb _ _ h)

  pub read_opened : at ≤ length bytes → (r : ℕ) → r ≡ run_of Ends (take (length bytes - at) (drop at bytes)) → opened_outcome (at + r) (drop (at + r) bytes) n l ≡ read_outcome bytes at n l
  read_opened h r e =
      let f : r ≡ run_of Ends (drop at bytes) = e ∙ ap (run_of Ends) (rest_all at bytes) in
      rw (le-ltb _ _ h) (ap (λ (z : List ℕ). opened_outcome (at + r) z n l) (sym (drop-drop r at bytes)) ∙ ap (λ (z : ℕ). opened_outcome (at + z) (drop z (drop at bytes)) n l) f)

module _ (bytes : List ℕ) (q : ℕ) (n l : List ℕ) where
  pub opened_none : length bytes ≤ q → outcome (Ok None) (n ∷ l ∷ []) ≡ opened_outcome q (drop q bytes) n l
  opened_none h = rw (drop_of_length-le bytes h)

  pub opened_14 : q < length bytes → (get_or bytes q 0 ≡ 62 → ⊥) → outcome (Err (Refused (Stray q))) (n ∷ l ∷ []) ≡ opened_outcome q (drop q bytes) n l
  opened_14 h b = rw (drop-cons bytes q 0 h, ne_eqb _ _ b)

  pub opened_entry : q < length bytes → get_or bytes q 0 ≡ 62 → (k : ℕ) → k ≡ entry_length (take (length bytes - (q + 1)) (drop (q + 1) bytes))
      → entry_outcome q (take (q + 1 + k - (q + 1)) (drop (q + 1) bytes)) n l ≡ opened_outcome q (drop q bytes) n l
  opened_entry h b k e =
      let d : drop q bytes ≡ get_or bytes q 0 ∷ drop (q + 1) bytes = rw (add-one q) (drop-cons bytes q 0 h) in
      let f : k ≡ entry_length (drop (q + 1) bytes) = e ∙ ap entry_length (rest_all (q + 1) bytes) in
      let g : q + 1 + k - (q + 1) ≡ entry_length (drop (q + 1) bytes) = add-sub_cancel_left (q + 1) k ∙ f in
      ap (λ (z : ℕ). entry_outcome q (take z (drop (q + 1) bytes)) n l) g ∙ sym (ap (λ (z : List ℕ). opened_outcome q z n l) d ∙ rw (eq-eqb _ _ b))
