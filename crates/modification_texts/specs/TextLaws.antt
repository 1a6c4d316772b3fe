-- The two round trips of document 01 between rules and their texts, and what a stored text leaves. Assumes nothing.
use Prim.Native.Nat.{ℕ, suc, ◌+◌, ◌≤◌, ◌<◌}
use Rattle.std.specs.Prelude.{◌≡◌, Bool, cond, not, ◌&&◌, ◌||◌, ◌⊎◌, get_or, leb, ltb, eqb, Ok, Err}
use Rattle.std.proofs.Math.Path.{refl, ap, subst}
use Rattle.std.proofs.Common.{sym, ap₂, ◌∙◌, true≢false, inl, inr, ⊎_elim, arith}
use Rattle.std.proofs.Math.Bool.{true, false}
use mathlib.Core.List.{List, [], ◌∷◌}
use Rattle.std.proofs.Math.ListN.{length}
use Rattle.std.proofs.lemmas.List.{length-map}
use Rattle.std.proofs.lemmas.List.Edits.{sets}
use Rattle.std.proofs.Math.Dec.{eqb-suc-zero}
use borrow.Author.Tests.{lt-leb, le-leb, lt-ltb, le-ltb, eq-eqb, ne_eqb, ltb-false, eqb-true}
use Rattle.records.specs.Room.{counted, singly}
use Rattle.lists.specs.Tests.{same?, both}
use Rattle.letters.specs.declared.letter_set.LetterSet.{LetterSet}
use Rattle.letters.specs.Letters.{is_capital, capital, capitals, is_letter, has}
use Rattle.letters.specs.CapitalLaws.{capital-from, capital-to, capital-same, letter_from, letter_is}
use Rattle.letters.specs.LetterLaws.{has_letter}
use Rattle.records.specs.declared.refusal.Refusal.{Refusal}
use Rattle.records.specs.declared.refusal.Refusal.TheVariants.{Letter, EmptyText, Outside, LongText, Field, Room}
use Rattle.records.specs.Search.{seek}
use Rattle.records.specs.Outcome.{outcome, only}
use Rattle.records.specs.RoomLaws.{stored-text, fits-text}
use Rattle.modification_kinds.specs.declared.specificity.Specificity.{Specificity}
use Rattle.modification_kinds.specs.declared.specificity.Specificity.TheVariants.{Residue, PeptideN, PeptideC, ProteinN, ProteinC}
use Rattle.modification_kinds.specs.Specificities.{kind_of, letter_of, specificity, sound}
use Rattle.modification_texts.specs.Texts.{first_wide, mark_of, mark_byte, letter_place, parsed_letter, parsed, text_of, write_outcome}
use Rattle.records.specs.Answers.{Counted}

-- ---- a text of at most two bytes in a buffer

module _ (t old out : List ℕ) (h : length t ≤ 2) (e : out ≡ sets old 0 t) where
  pub text_short : length old < length t → outcome (Err Room) (out ∷ []) ≡ counted 1 2 old (singly t)
  text_short g = rw (e, stored-text 2 t old h, fits-text 2 t old h, lt-leb (length t) (length old) g)

  pub text_long : length t ≤ length old → outcome (Ok (length t)) (out ∷ []) ≡ counted 1 2 old (singly t)
  text_long g = rw (e, stored-text 2 t old h, fits-text 2 t old h, le-leb (length t) (length old) g, length-map t (λ (b : ℕ). b ∷ []))

-- ---- the text of a sound rule

module _ (s : Specificity) where
  pub text_letter : kind_of s ≡ 0 → text_of s ≡ letter_of s ∷ []
  text_letter e = rw (eq-eqb (kind_of s) 0 e)

  pub text-mark : (kind_of s ≡ 0 → ⊥) → letter_of s ≡ 0 → text_of s ≡ mark_byte (kind_of s) ∷ []
  text-mark n e = rw (ne_eqb (kind_of s) 0 n, eq-eqb (letter_of s) 0 e)

  pub text-both : (kind_of s ≡ 0 → ⊥) → (letter_of s ≡ 0 → ⊥) → text_of s ≡ mark_byte (kind_of s) ∷ letter_of s ∷ []
  text-both n m = rw (ne_eqb (kind_of s) 0 n, ne_eqb (letter_of s) 0 m)

-- ---- marks

-- b is the mark of kind k
record Mark (k b : ℕ) : Type 0 where
  reads : mark_of b ≡ k
  itself : capital b ≡ b
  behind : letter_place k ≡ 1
  plain : ltb b 128 ≡ true
  kind : (l : ℕ) → kind_of (specificity k l) ≡ k
  letter : (l : ℕ) → letter_of (specificity k l) ≡ l
  some : eqb k 0 ≡ false
  writes : mark_byte k ≡ b

caret : Mark 1 94
unfolding capital
caret = record { reads = refl; itself = refl; behind = refl; plain = refl; kind = λ l. refl; letter = λ l. refl; some = refl; writes = refl }

dollar : Mark 2 36
unfolding capital
dollar = record { reads = refl; itself = refl; behind = refl; plain = refl; kind = λ l. refl; letter = λ l. refl; some = refl; writes = refl }

opening : Mark 3 91
unfolding capital
opening = record { reads = refl; itself = refl; behind = refl; plain = refl; kind = λ l. refl; letter = λ l. refl; some = refl; writes = refl }

closing : Mark 4 93
unfolding capital
closing = record { reads = refl; itself = refl; behind = refl; plain = refl; kind = λ l. refl; letter = λ l. refl; some = refl; writes = refl }

-- a byte is a mark, or none
mark? : (b : ℕ) → ((k : ℕ) × Mark k b) ⊎ (mark_of b ≡ 0)
mark? b = go (same? b 94) (same? b 36) (same? b 91) (same? b 93)
  where
    is : (k m : ℕ) → Mark k m → b ≡ m → ((k : ℕ) × Mark k b) ⊎ (mark_of b ≡ 0)
    is k m x e = inl (k, subst (Mark k) (sym e) x)

    go : (b ≡ 94) ⊎ (b ≡ 94 → ⊥) → (b ≡ 36) ⊎ (b ≡ 36 → ⊥) → (b ≡ 91) ⊎ (b ≡ 91 → ⊥) → (b ≡ 93) ⊎ (b ≡ 93 → ⊥) → ((k : ℕ) × Mark k b) ⊎ (mark_of b ≡ 0)
    go (inl e) y z w = is 1 94 caret e
    go (inr x) (inl e) z w = is 2 36 dollar e
    go (inr x) (inr y) (inl e) w = is 3 91 opening e
    go (inr x) (inr y) (inr z) (inl e) = is 4 93 closing e
    go (inr x) (inr y) (inr z) (inr w) = inr (rw (ne_eqb b 94 x, ne_eqb b 36 y, ne_eqb b 91 z, ne_eqb b 93 w))

mark-text : (k b : ℕ) → Mark k b → (l : ℕ) → text_of (specificity k l) ≡ cond (eqb l 0) (b ∷ []) (b ∷ l ∷ [])
mark-text k b x l = rw (x.kind l, x.letter l, x.some, x.writes)

-- a mark is one byte
pub place-small : (k : ℕ) → letter_place k ≤ 1
place-small k = go (eqb k 0)
  where
    go : (x : Bool) → cond x 0 1 ≤ 1
    go true = omega arith
    go false = omega arith

-- ---- writing, then reading

letter_plain : (b : ℕ) → is_capital b ≡ true → ltb b 128 ≡ true
letter_plain b h = lt-ltb b 128 (omega (arith, capital-to b h))

letter_no_mark : (b : ℕ) → is_capital b ≡ true → mark_of b ≡ 0
letter_no_mark b h =
    let f = capital-from b h in
    let t = capital-to b h in
    rw (ne_eqb b 94 (λ e. omega arith), ne_eqb b 36 (λ e. omega arith), ne_eqb b 91 (λ e. omega arith), ne_eqb b 93 (λ e. omega arith))

-- a letter is not 0, and that of a rule is a capital
letter_some : (b : ℕ) → is_letter b ≡ true → b ≡ 0 → ⊥
letter_some b h e = ⊎_elim (λ u. omega (arith, u.0)) (λ u. omega (arith, u.0)) (letter_is b h)

sound-capital : (k b : ℕ) → sound k b ≡ true → is_letter b ≡ true → is_capital b ≡ true
sound-capital k b h l = go (is_capital b) refl (both (leb k 4) _ h).1
  where
    go : (x : Bool) → is_capital b ≡ x → (x || (eqb b 0 && not (eqb k 0))) ≡ true → is_capital b ≡ true
    go true p q = p
    go false p q = absurd (letter_some b l (eqb-true b 0 (both (eqb b 0) (not (eqb k 0)) q).0))

module _ (alphabet : LetterSet) where
  parse_letter_text : (b : ℕ) → is_capital b ≡ true → has alphabet b ≡ true → parsed (b ∷ []) alphabet ≡ Ok (Residue b)
  unfolding parsed first_wide seek
  parse_letter_text b c h = rw (letter_plain b c, letter_no_mark b c, h, capital-same b c)

  module _ (k m : ℕ) (x : Mark k m) where
    parse_mark : parsed (m ∷ []) alphabet ≡ Ok (specificity k 0)
    unfolding parsed first_wide seek
    parse_mark = rw (x.plain, x.reads, x.behind)

    parse_both : (b : ℕ) → is_capital b ≡ true → has alphabet b ≡ true → parsed (m ∷ b ∷ []) alphabet ≡ Ok (specificity k b)
    unfolding parsed first_wide seek
    parse_both b c h = rw (x.plain, letter_plain b c, x.reads, x.behind, h, capital-same b c)

    -- the text of the mark with a letter or none
    marked : (b : ℕ) → sound k b ≡ true → (b ≡ 0) ⊎ (has alphabet b ≡ true) → parsed (cond (eqb b 0) (m ∷ []) (m ∷ b ∷ [])) alphabet ≡ Ok (specificity k b)
    marked b s (inl e) = rw e parse_mark
    marked b s (inr h) =
        let l = has_letter alphabet b h in
        rw (ne_eqb b 0 (letter_some b l)) (parse_both b (sound-capital k b s l) h)

no_letter : (b : ℕ) → b ≡ 0 → sound 0 b ≡ true → ⊥
unfolding is_capital
no_letter b e h = true≢false (sym (subst (λ (x : ℕ). sound 0 x ≡ true) e h))

-- writing then reading gives kind and letter back, where the alphabet has the letter, if any
pub write_then_parse : (s : Specificity) (alphabet : LetterSet) → sound (kind_of s) (letter_of s) ≡ true
    → (letter_of s ≡ 0) ⊎ (has alphabet (letter_of s) ≡ true) → parsed (text_of s) alphabet ≡ Ok s
write_then_parse (Residue b) alphabet h (inl e) = absurd (no_letter b e h)
write_then_parse (Residue b) alphabet h (inr g) = parse_letter_text alphabet b (sound-capital 0 b h (has_letter alphabet b g)) g
write_then_parse (PeptideN b) alphabet h way = marked alphabet 1 94 caret b h way
write_then_parse (PeptideC b) alphabet h way = marked alphabet 2 36 dollar b h way
write_then_parse (ProteinN b) alphabet h way = marked alphabet 3 91 opening b h way
write_then_parse (ProteinC b) alphabet h way = marked alphabet 4 93 closing b h way

-- ---- reading, then writing

-- what a refusal is not
refused_no_rule : (r : Refusal) (s : Specificity) → Err r ≡ Ok s → ⊥
refused_no_rule r s e = let z : ◌≡◌ {A = ℕ} 0 1 = cc in omega arith

module _ (alphabet : LetterSet) (s : Specificity) where
  -- a letter at its place was read
  read_letter : (text : List ℕ) (k at : ℕ) → (eqb (length text) at ≡ false) → parsed_letter text k at alphabet ≡ Ok s → (has alphabet (get_or text at 0) ≡ true) × (specificity k (capital (get_or text at 0)) ≡ s)
  read_letter text k at n e = go (has alphabet (get_or text at 0)) refl (rw n at e)
    where
      go : (x : Bool) → has alphabet (get_or text at 0) ≡ x → cond x (Ok (specificity k (capital (get_or text at 0)))) (Err (Outside at)) ≡ Ok s → (has alphabet (get_or text at 0) ≡ true) × (specificity k (capital (get_or text at 0)) ≡ s)
      go true p q = (p, cc)
      go false p q = absurd (refused_no_rule (Outside at) s q)

  -- a text that is read has no wide byte, and is not too long
  read_plain : (text : List ℕ) → (eqb (length text) 0 ≡ false) → parsed text alphabet ≡ Ok s
      → (ltb (letter_place (mark_of (get_or text 0 0)) + 1) (length text) ≡ false) × (parsed_letter text (mark_of (get_or text 0 0)) (letter_place (mark_of (get_or text 0 0))) alphabet ≡ Ok s)
  unfolding parsed
  read_plain text n e = first (ltb (first_wide text) (length text)) (rw n at e)
    where
      k : ℕ
      k = mark_of (get_or text 0 0)

      second : (y : Bool) → ltb (letter_place (mark_of (get_or text 0 0)) + 1) (length text) ≡ y → cond y (Err LongText) (parsed_letter text (mark_of (get_or text 0 0)) (letter_place (mark_of (get_or text 0 0))) alphabet) ≡ Ok s
          → (ltb (letter_place (mark_of (get_or text 0 0)) + 1) (length text) ≡ false) × (parsed_letter text (mark_of (get_or text 0 0)) (letter_place (mark_of (get_or text 0 0))) alphabet ≡ Ok s)
      second true p q = absurd (refused_no_rule LongText s q)
      second false p q = (p, q)

      first : (x : Bool) → cond x (Err (Letter (first_wide text))) (cond (ltb (letter_place (mark_of (get_or text 0 0)) + 1) (length text)) (Err LongText) (parsed_letter text (mark_of (get_or text 0 0)) (letter_place (mark_of (get_or text 0 0))) alphabet)) ≡ Ok s
          → (ltb (letter_place (mark_of (get_or text 0 0)) + 1) (length text) ≡ false) × (parsed_letter text (mark_of (get_or text 0 0)) (letter_place (mark_of (get_or text 0 0))) alphabet ≡ Ok s)
      first true q = absurd (refused_no_rule (Letter (first_wide text)) s q)
      first false q = second (ltb (letter_place (mark_of (get_or text 0 0)) + 1) (length text)) refl q

  -- behind a mark, or first
  read_at : (text : List ℕ) (m k at : ℕ) → m ≡ k → letter_place k ≡ at → parsed_letter text m (letter_place m) alphabet ≡ Ok s → parsed_letter text k at alphabet ≡ Ok s
  read_at text m k at e f q =
      let q' : parsed_letter text k (letter_place k) alphabet ≡ Ok s = subst (λ (x : ℕ). parsed_letter text x (letter_place x) alphabet ≡ Ok s) e q in
      subst (λ (x : ℕ). parsed_letter text k x alphabet ≡ Ok s) f q'

  write_one : (a : ℕ) → parsed_letter (a ∷ []) (mark_of a) (letter_place (mark_of a)) alphabet ≡ Ok s → ((k : ℕ) × Mark k a) ⊎ (mark_of a ≡ 0) → text_of s ≡ capitals (a ∷ [])
  write_one a q (inl (k, x)) =
      let r : Ok (specificity k 0) ≡ Ok s = read_at (a ∷ []) (mark_of a) k 1 x.reads x.behind q in
      let e : specificity k 0 ≡ s = cc in
      ap text_of (sym e) ∙ mark-text k a x 0 ∙ ap (λ (b : ℕ). b ∷ []) (sym x.itself)
  write_one a q (inr z) =
      let e = read_letter (a ∷ []) 0 0 refl (read_at (a ∷ []) (mark_of a) 0 0 z refl q) in
      ap text_of (sym e.1)

  write_two : (a b : ℕ) → ltb (letter_place (mark_of a) + 1) 2 ≡ false → parsed_letter (a ∷ b ∷ []) (mark_of a) (letter_place (mark_of a)) alphabet ≡ Ok s
      → ((k : ℕ) × Mark k a) ⊎ (mark_of a ≡ 0) → text_of s ≡ capitals (a ∷ b ∷ [])
  write_two a b p q (inl (k, x)) =
      let e = read_letter (a ∷ b ∷ []) k 1 refl (read_at (a ∷ b ∷ []) (mark_of a) k 1 x.reads x.behind q) in
      let l : 65 ≤ capital b = letter_from b (has_letter alphabet b e.0) in
      ap text_of (sym e.1) ∙ mark-text k a x (capital b) ∙ rw (ne_eqb (capital b) 0 (λ z. omega arith), x.itself)
  write_two a b p q (inr z) = absurd (true≢false (subst (λ (x : ℕ). ltb (letter_place x + 1) 2 ≡ false) z p))

  -- reading then writing gives the text back, with its letter as a capital
  pub parse_then_write : (text : List ℕ) → parsed text alphabet ≡ Ok s → text_of s ≡ capitals text
  unfolding parsed
  parse_then_write [] e = absurd (refused_no_rule EmptyText s e)
  parse_then_write (a ∷ []) e = write_one a (read_plain (a ∷ []) refl e).1 (mark? a)
  parse_then_write (a ∷ b ∷ []) e = let x = read_plain (a ∷ b ∷ []) refl e in write_two a b x.0 x.1 (mark? a)
  parse_then_write (a ∷ b ∷ c ∷ rest) e =
      let h = ltb-false (letter_place (mark_of a) + 1) (suc (suc (suc (length rest)))) (read_plain (a ∷ b ∷ c ∷ rest) (eqb-suc-zero (suc (suc (length rest)))) e).0 in
      absurd (omega (arith, place-small (mark_of a)))

-- ---- the tests of `parse`, one after the other

module _ (text : List ℕ) (alphabet : LetterSet) where
  pub parsed-empty : length text ≡ 0 → Err EmptyText ≡ parsed text alphabet
  unfolding parsed
  parsed-empty h = rw (eq-eqb (length text) 0 h)

  module _ (some : length text ≡ 0 → ⊥) (w : ℕ) (is : w ≡ first_wide text) where
    pub parsed-wide : w < length text → Err (Letter w) ≡ parsed text alphabet
    unfolding parsed
    parsed-wide h = rw (is, ne_eqb (length text) 0 some, lt-ltb (first_wide text) (length text) (rw is at h))

    module _ (narrow : length text ≤ w) (k : ℕ) (kind : k ≡ mark_of (get_or text 0 0)) (at : ℕ) (place : at ≡ letter_place k) where
      all_narrow : ltb (first_wide text) (length text) ≡ false
      all_narrow = le-ltb (first_wide text) (length text) (rw is at narrow)

      at_place : at ≡ letter_place (mark_of (get_or text 0 0))
      at_place = place ∙ ap letter_place kind

      pub parsed_long : at + 1 < length text → Err LongText ≡ parsed text alphabet
      unfolding parsed
      parsed_long h =
          let g : letter_place (mark_of (get_or text 0 0)) + 1 < length text = omega (arith, at_place) in
          rw (ne_eqb (length text) 0 some, all_narrow, lt-ltb (letter_place (mark_of (get_or text 0 0)) + 1) (length text) g)

      pub parsed-rest : length text ≤ at + 1 → parsed_letter text k at alphabet ≡ parsed text alphabet
      unfolding parsed
      parsed-rest h =
          let g : length text ≤ letter_place (mark_of (get_or text 0 0)) + 1 = omega (arith, at_place) in
          subst (λ (m : ℕ). parsed_letter text k at alphabet ≡ parsed_letter text m at alphabet) kind refl
          ∙ subst (λ (m : ℕ). parsed_letter text (mark_of (get_or text 0 0)) at alphabet ≡ parsed_letter text (mark_of (get_or text 0 0)) m alphabet) at_place refl
          ∙ rw (ne_eqb (length text) 0 some, all_narrow, le-ltb (letter_place (mark_of (get_or text 0 0)) + 1) (length text) g)

-- ---- the tests of `write`

module _ (s : Specificity) (old : List ℕ) (k l : ℕ) (ek : k ≡ kind_of s) (el : l ≡ letter_of s) where
  is_sound : (x : Bool) → sound k l ≡ x → sound (kind_of s) (letter_of s) ≡ x
  is_sound x h = subst (λ (m : ℕ). sound m (letter_of s) ≡ x) ek (subst (λ (m : ℕ). sound k m ≡ x) el h)

  pub write_bad : sound k l ≡ false → outcome (Err (Field 0)) (old ∷ []) ≡ write_outcome s old
  unfolding write_outcome
  write_bad h = rw (is_sound false h)

  module _ (h : sound k l ≡ true) where
    to-text : (t : List ℕ) → text_of s ≡ t → counted 1 2 old (singly t) ≡ write_outcome s old
    unfolding write_outcome
    to-text t e = ap (λ (x : List ℕ). counted 1 2 old (singly x)) (sym e) ∙ rw (is_sound true h)

    pub write_letter : k ≡ 0 → counted 1 2 old (singly (l ∷ [])) ≡ write_outcome s old
    write_letter z = to-text (l ∷ []) (text_letter s (sym ek ∙ z) ∙ ap (λ (x : ℕ). x ∷ []) (sym el))

    module _ (n : k ≡ 0 → ⊥) (m : ℕ) (mark : m ≡ mark_byte k) where
      pub write_mark : l ≡ 0 → counted 1 2 old (singly (m ∷ [])) ≡ write_outcome s old
      write_mark z = to-text (m ∷ []) (text-mark s (λ e. n (ek ∙ e)) (sym el ∙ z) ∙ ap (λ (x : ℕ). x ∷ []) (sym (mark ∙ ap mark_byte ek)))

      pub write_both : (l ≡ 0 → ⊥) → counted 1 2 old (singly (m ∷ l ∷ [])) ≡ write_outcome s old
      write_both p = to-text (m ∷ l ∷ []) (text-both s (λ e. n (ek ∙ e)) (λ e. p (el ∙ e)) ∙ ap₂ (λ (x y : ℕ). x ∷ y ∷ []) (sym (mark ∙ ap mark_byte ek)) (sym el))

-- no second answer, and no second contents, meets what `write` ensures
pub write_only : (s : Specificity) (old : List ℕ) (a b : Counted) (k l : List (List ℕ)) → outcome a k ≡ write_outcome s old → outcome b l ≡ write_outcome s old → (a ≡ b) × (k ≡ l)
write_only s old a b k l = only a b k l (write_outcome s old)
