-- That the other entries take the peptide that is made of a digest. Assumes nothing.
use Prim.Native.Nat.{ℕ, suc, ◌+◌, ◌-◌, ◌≤◌, ◌<◌}
use Rattle.std.specs.Prelude.{◌≡◌, Bool, true, not, ◌⊎◌, get_or, drop, replicate, Float, Ok, Err}
use Rattle.std.proofs.Math.Path.{refl, sym, ap}
use Rattle.std.proofs.Common.{◌∙◌, true≢false, inl, inr, ⊎_elim, arith, length-append, length-drop, get_or-take, get_or-drop, get_or-append-add, length-take-le}
use Rattle.std.proofs.Math.Bool.{false}
use mathlib.Core.List.{List, [], ◌∷◌, ◌++◌}
use Rattle.std.proofs.Math.ListN.{length, get_or-append}
use Rattle.std.proofs.lemmas.List.{length-replicate, get_or-replicate, length-map}
use borrow.Author.Tests.{le-leb, le-ltb, ne_eqb}
use Rattle.peptide_mass.specs.Masses.{wrong_size, add_all, no_mass, first_no_mass, tested_letters, weighed, weighed_or}
use Rattle.peptide_mass.specs.MassLaws.{no_mass_at, has-mass_letter, no_mass-capital, letters-passed, weighed-passed}
use Rattle.enzyme_keep.specs.Digests.{start_of, end_of, position_in, is_decoy}
use Rattle.peptide_digests.specs.DigestTests.{tested_digest}
use Rattle.lists.specs.Tests.{below?}
use Rattle.records.specs.declared.refusal.Refusal.{Refusal}
use Rattle.records.specs.Search.{seek}
use Rattle.records.specs.SearchLaws.{seek-passes}
use Rattle.letters.specs.Letters.{capital, capitals, is_letter, no_letter, first_bad}
use Rattle.letters.specs.CapitalLaws.{other_reads, letter_capital, get_or-capitals}
use Rattle.peptide_slots.specs.Mirror.{mirror, all_zero}
use Rattle.peptide_slots.specs.MirrorLaws.{MirroredTo, until, mirror-turned}
use Rattle.peptide_slots.specs.Windows.{window}
use Rattle.peptide_digests.specs.DigestTestLaws.{range_in, Digestible, passed_digestible}
use Rattle.peptide.specs.declared.making.Peptide.{Peptide}
use Rattle.peptide.specs.Peptides.{Made, tested_in, residues_of, clear, tested_peptide, peptide_from, no_peptide, made_or, reversed_peptide}
use Rattle.peptide.specs.PeptideLaws.{contents-clear, peptide_tested-on, tested_of}
use Rattle.peptide.specs.Digested.{of_range, digested, made_of_digest, weighed_digest}
use Rattle.records.specs.Answers.{Passed, Tested}

-- ---- letters in a peptide's array

-- none of the places passes the test
none_found : (p : ℕ → Bool) (n : ℕ) → ((k : ℕ) → k < n → p k ≡ false) → n ≤ seek p 0 n
none_found p n h = ⊎_elim (λ (l : seek p 0 n < n). absurd (true≢false (sym (seek-passes p 0 n (omega arith)) ∙ h (seek p 0 n) l))) (λ (l : n ≤ seek p 0 n). l) (below? (seek p 0 n) n)

all-zero : (xs : List ℕ) → ((k : ℕ) → k < length xs → get_or xs k 0 ≡ 0) → all_zero xs ≡ true
unfolding all_zero
all-zero [] h = refl
all-zero (b ∷ bs) h = rw (h 0 (omega arith), all-zero bs (λ k g. h (suc k) (omega arith)))

-- zeros from a place of 64 on
abbrev ZeroFrom : ℕ → List ℕ → Type 0
ZeroFrom n xs = (k : ℕ) → n ≤ k → k < 64 → get_or xs k 0 ≡ 0

zero-from : (n : ℕ) (xs : List ℕ) → length xs ≡ 64 → ZeroFrom n xs → all_zero (drop n xs) ≡ true
zero-from n xs l z = all-zero (drop n xs) (λ k g. get_or-drop n xs k 0 ∙ z (n + k) (omega arith) (omega (arith, length-drop n xs)))

module _ (n : ℕ) (xs : List ℕ) (some : 1 ≤ n) (fits : n ≤ 64) (l : length xs ≡ 64) where
  turn : MirroredTo n (until n) xs (mirror n xs)
  turn = mirror-turned n xs (omega arith)

  -- what is mirrored stood inside too, what is not stays
  mirror_in : (k : ℕ) → k < n → (j : ℕ) × (j < n) × (get_or (mirror n xs) k 0 ≡ get_or xs j 0)
  mirror_in k h = go (below? k 1) (below? k (until n))
    where
      go : (k < 1) ⊎ (1 ≤ k) → (k < until n) ⊎ (until n ≤ k) → (j : ℕ) × (j < n) × (get_or (mirror n xs) k 0 ≡ get_or xs j 0)
      go (inl a) b = (k, h, turn.outer k (inl a))
      go (inr a) (inl b) = (n - 1 - k, omega arith, turn.inner k a b)
      go (inr a) (inr b) = (k, h, turn.outer k (inr b))

  mirror-past : ZeroFrom n xs → ZeroFrom n (mirror n xs)
  mirror-past z k h g = turn.outer k (inr (omega arith)) ∙ z k h g

module _ (part : List ℕ) (some : 1 ≤ length part) (fits : length part ≤ 64) where
  abbrev held : List ℕ
  held = capitals (window 64 0 part)

  held-length : length held ≡ 64
  held-length =
      length-map (window 64 0 part) capital
      ∙ length-take-le 64 (part ++ replicate 64 0) (omega (arith, length-append part (replicate 64 0), length-replicate {A = ℕ} 64 0))

  held_in : (k : ℕ) → k < length part → get_or held k 0 ≡ capital (get_or part k 0)
  held_in k h = get_or-capitals (window 64 0 part) k ∙ ap capital (get_or-take 64 (part ++ replicate 64 0) k 0 (omega arith) ∙ get_or-append part (replicate 64 0) 0 k h)

  held-past : ZeroFrom (length part) held
  held-past k h g =
      let e : length part + (k - length part) ≡ k = omega arith in
      get_or-capitals (window 64 0 part) k
      ∙ ap capital
      (get_or-take 64 (part ++ replicate 64 0) k 0 g
      ∙ ap (λ (i : ℕ). get_or (part ++ replicate 64 0) i 0) (sym e)
      ∙ get_or-append-add part (replicate 64 0) (k - length part) 0
      ∙ get_or-replicate 64 (k - length part) 0 0 (omega arith))
      ∙ other_reads 0 (inl (omega arith))

-- ---- the peptide of a range

-- a peptide of letters that lies clear passes its tests
passes_of : (q : Peptide) → 1 ≤ q.len → q.len ≤ 64 → length (residues_of q) ≡ q.len → ((k : ℕ) → k < q.len → no_letter (residues_of q) k ≡ false) → clear q ≡ true → tested_peptide q ≡ Passed
unfolding first_bad
passes_of q a b l h e =
    let low = none_found (no_letter (residues_of q)) (length (residues_of q)) (λ k g. h k (omega arith)) in
    let sized : wrong_size q.len ≡ false = rw (ne_eqb q.len 0 (λ x. omega arith), le-ltb 64 q.len b) in
    sym (peptide_tested-on q Passed sized (contents-clear q (first_bad (residues_of q)) refl (omega arith) e))

clear_of : (q : Peptide) → length q.letters ≡ 64 → length q.ids ≡ 64 → ZeroFrom q.len q.letters → ZeroFrom q.len q.ids → q.position ≤ 3 → clear q ≡ true
unfolding clear
clear_of q l m y z h = rw (zero-from q.len q.letters l y, zero-from q.len q.ids m z, le-leb q.position 3 h)

module _ (part : List ℕ) (position : ℕ) (decoy : Bool) where
  pub range_decoy : decoy ≡ true → reversed_peptide (peptide_from part [] position false) ≡ of_range part position decoy
  range_decoy e = rw e

  pub range_target : decoy ≡ false → peptide_from part [] position false ≡ of_range part position decoy
  range_target e = rw e

module _ (part : List ℕ) (some : 1 ≤ length part) (fits : length part ≤ 64) (position : ℕ) where
  abbrev plain : Peptide
  plain = peptide_from part [] position false

  abbrev letters : List ℕ
  letters = held part some fits

  held-turned : MirroredTo (length part) (until (length part)) letters (mirror (length part) letters)
  held-turned = turn (length part) letters some fits (held-length part some fits)

  pub range_length : (decoy : Bool) → length (residues_of (of_range part position decoy)) ≡ length part
  range_length false = length-take-le (length part) letters (omega (arith, held-length part some fits))
  range_length true = length-take-le (length part) (mirror (length part) letters) (omega (arith, held-length part some fits, held-turned.len))

  range_letter : (decoy : Bool) (k : ℕ) → k < length part → (j : ℕ) × (j < length part) × (get_or (residues_of (of_range part position decoy)) k 0 ≡ capital (get_or part j 0))
  range_letter false k h = (k, h, get_or-take (length part) letters k 0 h ∙ held_in part some fits k h)
  range_letter true k h =
      let m = mirror_in (length part) letters some fits (held-length part some fits) k h in
      (m.0, m.1, get_or-take (length part) (mirror (length part) letters) k 0 h ∙ m.2 ∙ held_in part some fits m.0 m.1)

  -- what no letter of the range passes, no letter of the peptide does, where small letters pass as capitals do
  pub range-each : (p : ℕ → Bool) → ((b : ℕ) → p (capital b) ≡ p b) → ((k : ℕ) → k < length part → p (get_or part k 0) ≡ false) → (decoy : Bool) (k : ℕ) → k < length part → p (get_or (residues_of (of_range part position decoy)) k 0) ≡ false
  range-each p f h decoy k g = let m = range_letter decoy k g in ap p m.2 ∙ f (get_or part m.0 0) ∙ h m.0 m.1

  no_ids : ZeroFrom (length part) (window 64 2 [])
  no_ids k h g = get_or-take 64 (replicate 64 0) k 0 g ∙ get_or-replicate 64 k 0 0 g

  range_clear : position ≤ 3 → (decoy : Bool) → clear (of_range part position decoy) ≡ true
  range_clear h false = clear_of plain (held-length part some fits) refl (held-past part some fits) no_ids h
  range_clear h true =
      clear_of (reversed_peptide plain) (held-turned.len ∙ held-length part some fits) (turn (length part) (window 64 2 []) some fits refl).len
      (mirror-past (length part) letters some fits (held-length part some fits) (held-past part some fits))
      (mirror-past (length part) (window 64 2 []) some fits refl no_ids) h

  pub range-passes : position ≤ 3 → ((k : ℕ) → k < length part → no_letter part k ≡ false) → (decoy : Bool) → tested_peptide (of_range part position decoy) ≡ Passed
  range-passes h l false = passes_of plain some fits (range_length false) (range-each (λ (b : ℕ). not (is_letter b)) (λ b. ap not (letter_capital b)) l false) (range_clear h false)
  range-passes h l true = passes_of (reversed_peptide plain) some fits (range_length true) (range-each (λ (b : ℕ). not (is_letter b)) (λ b. ap not (letter_capital b)) l true) (range_clear h true)

  module _ (masses : List Float) (whole : length masses ≡ 26) where
    pub range-weighed : ((k : ℕ) → k < length part → no_mass masses (get_or part k 0) ≡ false) → (decoy : Bool) → Passed ≡ tested_letters (residues_of (of_range part position decoy)) masses
    unfolding first_no_mass
    range-weighed h decoy =
        let q : List ℕ = residues_of (of_range part position decoy) in
        let l : length q ≡ length part = range_length decoy in
        let low = none_found (no_mass_at masses q) (length q) (λ k g. range-each (no_mass masses) (no_mass-capital masses) h decoy k (omega arith)) in
        let sized : wrong_size (length q) ≡ false = rw (ne_eqb (length q) 0 (λ x. omega arith), le-ltb 64 (length q) (omega arith)) in
        letters-passed q masses sized whole (first_no_mass masses q) refl low

-- ---- the peptide of a digest that passed

module _ (s r : List ℕ) (masses : List Float) (h : tested_digest s r masses ≡ Passed) where
  d : Digestible s r masses
  d = passed_digestible s r masses h

  range_many : length (range_in s r masses) ≡ end_of r - start_of r
  range_many = length-take-le (end_of r - start_of r) (drop (start_of r) s) (omega (arith, d.within, d.rises, length-drop (start_of r) s))

  some : 1 ≤ length (range_in s r masses)
  some = omega (arith, range_many, d.rises)

  pub range-fits : length (range_in s r masses) ≤ 64
  range-fits = omega (arith, range_many, d.few)

  masses_in : (k : ℕ) → k < length (range_in s r masses) → no_mass masses (get_or (range_in s r masses) k 0) ≡ false
  masses_in k g = d.fit k (omega (arith, range_many))

  letters_in : (k : ℕ) → k < length (range_in s r masses) → no_letter (range_in s r masses) k ≡ false
  letters_in k g = ap not (has-mass_letter masses (get_or (range_in s r masses) k 0) (masses_in k g))

  -- reversal and forms take it
  pub digested-passes : tested_peptide (digested s r) ≡ Passed
  unfolding digested
  digested-passes = range-passes (range_in s r masses) some range-fits (position_in r) d.placed letters_in (is_decoy r)

  -- its mass is that of its letters
  pub digested-mass : (water : Float) → weighed (residues_of (digested s r)) masses water ≡ weighed_digest s r masses water
  unfolding digested weighed_digest
  digested-mass water = sym (weighed-passed (residues_of (digested s r)) masses water (range-weighed (range_in s r masses) some range-fits (position_in r) masses d.whole masses_in (is_decoy r))) ∙ ap (λ (t : Tested). weighed_or t (add_all masses water (residues_of (digested s r)))) (sym h)

-- ---- what was made, and what was weighed

module _ (s r : List ℕ) (masses : List Float) where
  pub made-tested : (m : Made) → m ≡ made_of_digest s r masses → tested_in m ≡ tested_digest s r masses
  unfolding made_of_digest
  made-tested m e = ap tested_in e ∙ tested_of (tested_digest s r masses) (digested s r) no_peptide

  pub made-digested : tested_digest s r masses ≡ Passed → (m : Made) → m ≡ made_of_digest s r masses → m ≡ Ok (digested s r)
  unfolding made_of_digest
  made-digested h m e = e ∙ ap (λ (t : Tested). made_or t (digested s r) no_peptide) h

  pub mass-refused : (water : Float) (why : Refusal) → tested_digest s r masses ≡ Err why → Err why ≡ weighed_digest s r masses water
  unfolding weighed_digest
  mass-refused water why e = rw e
