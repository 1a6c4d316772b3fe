-- Laws of the tables and of a book's letters. Assumes nothing.
use Rattle.std.specs.Prelude.{ℕ, suc, ◌+◌, ◌-◌, ◌*◌, ◌≤◌, ◌<◌, min, ◌≡◌, refl, Bool, true, false, ◌&&◌, List, [], ◌∷◌, length, get_or, take, drop, set, ltb, eqb}
use Rattle.std.proofs.Common.{◌∙◌, ⊎_elim, arith, length-take, length-drop, length-set, get_or-take, get_or-drop, get_or-set_same, get_or-set_other}
use Rattle.std.proofs.Math.Nat.{min-le_left, min-le_right}
use Rattle.lists.specs.Tests.{same?}
use Rattle.letters.specs.Letters.{capital}
use Rattle.letters.specs.Reversal.{letters_of}
use Rattle.letters.specs.ReversalLaws.{length-letters, letter_inner, letter_outer}
use Rattle.digest_groups_words.specs.declared.spelling.Spelling.{Spelling}
use Rattle.enzyme_keep.specs.Digests.{start_of, end_of, position_in, decoy_in, protein_in}
use Rattle.digest_groups_spec.specs.DigestGroups.{digest_at, letters_in}
use Rattle.digest_groups_words.specs.Word.{packed}
use Rattle.digest_groups_words.specs.WordLaws.{Spelt}
use Rattle.digest_groups_words.specs.Tables.{BookLetters, DigestTables, digest_spelling}

-- ---- letters are letters, wherever they are taken from

-- what stands at each place, read in some way, is a capital
abbrev Each : (ℕ → ℕ) → List ℕ → Type 0
Each read xs = (i : ℕ) → i < length xs → (65 ≤ read (get_or xs i 0)) × (read (get_or xs i 0) ≤ 90)

each-spelt : (xs : List ℕ) → Each (λ (b : ℕ). b) xs → Spelt xs
each-spelt [] h = tt
each-spelt (x ∷ xs) h = ((h 0 (omega arith)).0, (h 0 (omega arith)).1, each-spelt xs (λ i l. h (suc i) (omega arith)))

each_part : (n f : ℕ) (letters : List ℕ) → Each capital letters → Each capital (take n (drop f letters))
each_part n f letters h i l =
    let m : length (take n (drop f letters)) ≡ min n (length (drop f letters)) = length-take n (drop f letters) in
    let k : i < n = omega (arith, min-le_left n (length (drop f letters))) in
    let j : f + i < length letters = omega (arith, min-le_right n (length (drop f letters)), length-drop f letters) in
    rw (get_or-take n (drop f letters) i 0 k ∙ get_or-drop f letters i 0) (h (f + i) j)

each-letters : (b : Bool) (part : List ℕ) → Each capital part → Each (λ (b : ℕ). b) (letters_of b part)
each-letters b part h i l =
    let k : i < length part = omega (arith, length-letters b part) in
    go (b && ltb 0 i && ltb (i + 1) (length part)) refl k
  where
    go : (t : Bool) → (b && ltb 0 i && ltb (i + 1) (length part)) ≡ t → i < length part → (65 ≤ get_or (letters_of b part) i 0) × (get_or (letters_of b part) i 0 ≤ 90)
    go true e k = rw (letter_inner b part i e) (h (length part - 1 - i) (omega arith))
    go false e k = rw (letter_outer b part i k e) (h i k)

pub spelt-range : (b : Bool) (n f : ℕ) (letters : List ℕ) → BookLetters letters → Spelt (letters_of b (take n (drop f letters)))
spelt-range b n f letters book = each-spelt (letters_of b (take n (drop f letters))) (each-letters b (take n (drop f letters)) (each_part n f letters book.spelt))

pub spelt-letters : (bounds letters d : List ℕ) → BookLetters letters → Spelt (letters_in bounds letters d)
spelt-letters bounds letters d book = spelt-range (eqb (decoy_in d) 1) (end_of d - start_of d) (get_or bounds (protein_in d) 0 + start_of d) letters book

-- ---- the tables grow

pub tables-none : (bounds letters bytes : List ℕ) (n : ℕ) (w : List ℕ) → DigestTables bounds letters bytes n 0 w
tables-none bounds letters bytes n w = record {
  order = λ x h. absurd (omega arith);
  words = λ x h. absurd (omega arith);
  froms = λ x h. absurd (omega arith);
  sizes = λ x h. absurd (omega arith);
}

module _ (w : List ℕ) (a b c d : ℕ) (p q r s : ℕ) (ab : a < b) (bc : b < c) (cd : c < d) (l : d < length w) where
  abbrev pub four : List ℕ
  four = set (set (set (set w a p) b q) c r) d s

  l₁ : length (set w a p) ≡ length w
  l₁ = length-set w a p

  l₂ : length (set (set w a p) b q) ≡ length w
  l₂ = length-set (set w a p) b q ∙ l₁

  l₃ : length (set (set (set w a p) b q) c r) ≡ length w
  l₃ = length-set (set (set w a p) b q) c r ∙ l₂

  past_d : (x : ℕ) → (x ≡ d → ⊥) → get_or four x 0 ≡ get_or (set (set (set w a p) b q) c r) x 0
  past_d x h = get_or-set_other (set (set (set w a p) b q) c r) d x s 0 h

  past-c : (x : ℕ) → (x ≡ c → ⊥) → get_or (set (set (set w a p) b q) c r) x 0 ≡ get_or (set (set w a p) b q) x 0
  past-c x h = get_or-set_other (set (set w a p) b q) c x r 0 h

  past-b : (x : ℕ) → (x ≡ b → ⊥) → get_or (set (set w a p) b q) x 0 ≡ get_or (set w a p) x 0
  past-b x h = get_or-set_other (set w a p) b x q 0 h

  pub at_a : get_or four a 0 ≡ p
  at_a = past_d a (λ e. omega arith) ∙ past-c a (λ e. omega arith) ∙ past-b a (λ e. omega arith) ∙ get_or-set_same w a p 0 (omega arith)

  pub at_b : get_or four b 0 ≡ q
  at_b = past_d b (λ e. omega arith) ∙ past-c b (λ e. omega arith) ∙ get_or-set_same (set w a p) b q 0 (omega (arith, l₁))

  pub at_c : get_or four c 0 ≡ r
  at_c = past_d c (λ e. omega arith) ∙ get_or-set_same (set (set w a p) b q) c r 0 (omega (arith, l₂))

  pub at_d : get_or four d 0 ≡ s
  at_d = get_or-set_same (set (set (set w a p) b q) c r) d s 0 (omega (arith, l₃))

  pub at_other : (x : ℕ) → (x ≡ a → ⊥) → (x ≡ b → ⊥) → (x ≡ c → ⊥) → (x ≡ d → ⊥) → get_or four x 0 ≡ get_or w x 0
  at_other x ha hb hc hd = past_d x hd ∙ past-c x hc ∙ past-b x hb ∙ get_or-set_other w a x p 0 ha

module _ (bounds letters bytes : List ℕ) (n i : ℕ) (w : List ℕ) (h : i < n) (l : 5 * n ≤ length w) (t : DigestTables bounds letters bytes n i w) where
  abbrev new : List ℕ
  new =
      set (set (set (set w i i) (2 * n + i) (digest_spelling bounds letters (digest_at bytes i)).word) (3 * n + i) (digest_spelling bounds letters (digest_at bytes i)).from)
      (4 * n + i) (digest_spelling bounds letters (digest_at bytes i)).size

  abbrev s : Spelling
  s = digest_spelling bounds letters (digest_at bytes i)

  old : (x : ℕ) → (x ≡ i → ⊥) → (x ≡ 2 * n + i → ⊥) → (x ≡ 3 * n + i → ⊥) → (x ≡ 4 * n + i → ⊥) → get_or new x 0 ≡ get_or w x 0
  old = at_other w i (2 * n + i) (3 * n + i) (4 * n + i) i s.word s.from s.size (omega arith) (omega arith) (omega arith) (omega arith)

  pub tables_more : DigestTables bounds letters bytes n (i + 1) new
  tables_more = record {
    order = λ x k. ⊎_elim (λ (e : x ≡ i). rw e (at_a w i (2 * n + i) (3 * n + i) (4 * n + i) i s.word s.from s.size (omega arith) (omega arith) (omega arith) (omega arith)))
        (λ (e : x ≡ i → ⊥). old x e (λ z. omega arith) (λ z. omega arith) (λ z. omega arith) ∙ t.order x (omega (arith, e))) (same? x i);
    words = λ x k. ⊎_elim (λ (e : x ≡ i). rw e (at_b w i (2 * n + i) (3 * n + i) (4 * n + i) i s.word s.from s.size (omega arith) (omega arith) (omega arith) (omega arith)))
        (λ (e : x ≡ i → ⊥). old (2 * n + x) (λ z. omega arith) (λ z. e (omega arith)) (λ z. omega arith) (λ z. omega arith) ∙ t.words x (omega (arith, e))) (same? x i);
    froms = λ x k. ⊎_elim (λ (e : x ≡ i). rw e (at_c w i (2 * n + i) (3 * n + i) (4 * n + i) i s.word s.from s.size (omega arith) (omega arith) (omega arith) (omega arith)))
        (λ (e : x ≡ i → ⊥). old (3 * n + x) (λ z. omega arith) (λ z. omega arith) (λ z. e (omega arith)) (λ z. omega arith) ∙ t.froms x (omega (arith, e))) (same? x i);
    sizes = λ x k. ⊎_elim (λ (e : x ≡ i). rw e (at_d w i (2 * n + i) (3 * n + i) (4 * n + i) i s.word s.from s.size (omega arith) (omega arith) (omega arith) (omega arith)))
        (λ (e : x ≡ i → ⊥). old (4 * n + x) (λ z. omega arith) (λ z. omega arith) (λ z. omega arith) (λ z. e (omega arith)) ∙ t.sizes x (omega (arith, e))) (same? x i);
  }

-- ---- what is read of a digest is what it is sorted by

pub spelling_is : (bounds letters d : List ℕ) (st en de pr po from f w z : ℕ) → st ≡ start_of d → en ≡ end_of d → de ≡ decoy_in d → pr ≡ protein_in d → po ≡ position_in d
    → from ≡ get_or bounds pr 0 + st → f ≡ po * 2 + de → w ≡ packed f 6 (letters_of (eqb de 1) (take (from + (en - st) - from) (drop from letters))) → z ≡ 2 * (en - st) + de
    → ◌≡◌ {A = Spelling} (record { word = w; from = from; size = z }) (digest_spelling bounds letters d)
spelling_is bounds letters d st en de pr po from f w z a b c e g h i j k =
    let n : from + (en - st) - from ≡ en - st = omega arith in
    let m : w ≡ packed f 6 (letters_of (eqb de 1) (take (en - st) (drop from letters))) = rw n at j in
    cc
