-- The order by which the code sorts numbers of digests is the order of the digests by position, decoy and letters; so the runs
-- of the sorted numbers are the gathered digests. Assumes nothing.
use Prim.Native.Nat.{ℕ, zero, suc, ◌+◌, ◌*◌, ◌/◌, ◌%◌, ◌≤◌, ◌<◌}
use Rattle.std.specs.Prelude.{◌≡◌, Bool, true, false, cond, length, take, drop}
use Rattle.std.proofs.Math.Path.{refl, ap}
use Rattle.std.proofs.Common.{sym, ap₂, ◌∙◌, zero-add, suc-add}
use mathlib.Core.List.{List, [], ◌∷◌, map}
use native.Mathlib.Omega.{arith}
use Rattle.std.proofs.Math.ListN.{get_or}
use Rattle.std.proofs.Math.Seq.{slice, get_or-drop, take-nil, drop-nil}
use Rattle.lists.specs.Lists.{In, up_from}
use Rattle.lists.specs.RowLaws.{up_in}
use Rattle.sorting_texts.specs.declared.text.By.TheVariants.{Spelled}
use Rattle.sorting_spec.specs.Sort.{sorted}
use Rattle.sorting_spec.specs.SortLaws.{sorted_in, sorted-alike, sorted-map}
use Rattle.sorting_spec.specs.Lex.{lex_le}
use Rattle.sorting_texts.specs.Text.{text_by, le_by, spelling_of}
use Rattle.sorting_spec.specs.Runs.{joined, runs_of}
use Rattle.sorting_spec.specs.RunLaws.{runs_alike}
use Rattle.sorting_spec.specs.DistinctLaws.{runs_distinct}
use Rattle.enzyme_keep.specs.Digests.{position_in, decoy_in}
use Rattle.digest_groups_spec.specs.DigestGroups.{digest_at, digests_in, letters_in, key_of, gathered}
use Rattle.digest_groups_words.specs.Word.{digest_word}
use Rattle.digest_groups_words.specs.WordLaws.{word-key}
use Rattle.digest_groups_words.specs.Tables.{GoodDigests, digest_spelling, DigestTables}
use Rattle.digest_groups_words.specs.TableLaws.{spelt-letters}

-- ---- runs of what f makes

module _ {A B : Type 0} (le : B → B → Bool) (f : A → B) where
  joined-map : (x : A) (rs : List (List A)) → joined le (f x) (map (map f) rs) ≡ map (map f) (joined (λ (a b : A). le (f a) (f b)) x rs)
  joined-map x [] = refl
  joined-map x ([] ∷ rs) = refl
  joined-map x ((y ∷ ys) ∷ rs) = go (le (f y) (f x))
    where
      go : (t : Bool)
          → cond t ((f x ∷ f y ∷ map f ys) ∷ map (map f) rs) ((f x ∷ []) ∷ (f y ∷ map f ys) ∷ map (map f) rs)
          ≡ map (map f) (cond t ((x ∷ y ∷ ys) ∷ rs) ((x ∷ []) ∷ (y ∷ ys) ∷ rs))
      go true = refl
      go false = refl

  pub runs_map : (xs : List A) → runs_of le (map f xs) ≡ map (map f) (runs_of (λ (a b : A). le (f a) (f b)) xs)
  runs_map [] = refl
  runs_map (x ∷ xs) = ap (joined le (f x)) (runs_map xs) ∙ joined-map x (runs_of (λ (a b : A). le (f a) (f b)) xs)

-- ---- a part in two ways of saying it

pub part_is : (f k : ℕ) (l : List ℕ) → slice f (f + k) l ≡ take k (drop f l)
part_is zero k l = ap (λ (n : ℕ). take n l) (zero-add k)
part_is (suc f) k [] = rw (take-nil {A = ℕ} (suc f + k), drop-nil {A = ℕ} (suc f), take-nil {A = ℕ} k)
part_is (suc f) k (x ∷ l) = rw (suc-add f k) (part_is f k l)

-- ---- what the tables say

module _ (bounds letters bytes : List ℕ) (n : ℕ) (w : List ℕ) (g : GoodDigests bounds letters bytes n) (t : DigestTables bounds letters bytes n n w) where
  half : (x k d : ℕ) → d ≤ 1 → x ≡ 2 * k + d → (x / 2 ≡ k) × (x % 2 ≡ d)
  half x k d h e = (omega arith, omega arith)

  text_is : (x : ℕ) → x < n → text_by (Spelled n) letters (drop (2 * n) w) x
      ≡ digest_word (position_in (digest_at bytes x)) (decoy_in (digest_at bytes x)) (letters_in bounds letters (digest_at bytes x)) ∷ letters_in bounds letters (digest_at bytes x)
  unfolding spelling_of
  text_is x h =
      let d : List ℕ = digest_at bytes x in
      let s = digest_spelling bounds letters d in
      let a : get_or (drop (2 * n) w) x 0 ≡ s.word = get_or-drop (2 * n) w x 0 ∙ t.words x h in
      let p : 2 * n + (n + x) ≡ 3 * n + x = omega arith in
      let q : 2 * n + (2 * n + x) ≡ 4 * n + x = omega arith in
      let b : get_or (drop (2 * n) w) (n + x) 0 ≡ s.from = get_or-drop (2 * n) w (n + x) 0 ∙ ap (λ (i : ℕ). get_or w i 0) p ∙ t.froms x h in
      let c : get_or (drop (2 * n) w) (2 * n + x) 0 ≡ s.size = get_or-drop (2 * n) w (2 * n + x) 0 ∙ ap (λ (i : ℕ). get_or w i 0) q ∙ t.sizes x h in
      let e = half s.size _ (decoy_in d) (g.inside x h).flag refl in
      rw (a, b, c, e.0, e.1, part_is s.from _ letters)

  pub agree : (a b : ℕ) → a < n → b < n → le_by (Spelled n) letters (drop (2 * n) w) a b ≡ lex_le (key_of bounds letters (digest_at bytes a)) (key_of bounds letters (digest_at bytes b))
  agree a b h k =
      let i = g.inside a h in
      let j = g.inside b k in
      ap₂ lex_le (text_is a h) (text_is b k)
      ∙ word-key (position_in (digest_at bytes a)) (decoy_in (digest_at bytes a)) (position_in (digest_at bytes b)) (decoy_in (digest_at bytes b)) (letters_in bounds letters (digest_at bytes a)) (letters_in bounds letters (digest_at bytes b))
      (spelt-letters bounds letters (digest_at bytes a) i.book) (spelt-letters bounds letters (digest_at bytes b) j.book) i.flag j.flag

  abbrev by_key : List ℕ → List ℕ → Bool
  by_key c d = lex_le (key_of bounds letters c) (key_of bounds letters d)

  abbrev code : ℕ → ℕ → Bool
  code = le_by (Spelled n) letters (drop (2 * n) w)

  abbrev plain : ℕ → ℕ → Bool
  plain a b = lex_le (key_of bounds letters (digest_at bytes a)) (key_of bounds letters (digest_at bytes b))

  alike : (a b : ℕ) → In a (up_from 0 n) → In b (up_from 0 n) → code a b ≡ plain a b
  alike a b p q = let x = up_in a 0 n p in let y = up_in b 0 n q in agree a b (omega (arith, x.1)) (omega (arith, y.1))

  -- THE LAW
  pub gathered_runs : n ≡ length bytes / 20
      → map (map (digest_at bytes)) (runs_of (le_by (Spelled n) letters (drop (2 * n) w)) (sorted (le_by (Spelled n) letters (drop (2 * n) w)) (up_from 0 n))) ≡ gathered bounds letters (digests_in bytes)
  gathered_runs e =
      ap (map (map (digest_at bytes)))
      (runs_alike code plain (sorted code (up_from 0 n)) (λ a b p q. alike a b (sorted_in code a (up_from 0 n) p) (sorted_in code b (up_from 0 n) q))
      ∙ ap (runs_of plain) (sorted-alike code plain (up_from 0 n) alike))
      ∙ sym (runs_map by_key (digest_at bytes) (sorted plain (up_from 0 n)))
      ∙ ap (runs_of by_key) (sym (sorted-map by_key (digest_at bytes) (up_from 0 n)))
      ∙ ap (λ (k : ℕ). runs_of by_key (sorted by_key (map (digest_at bytes) (up_from 0 k)))) e
      ∙ runs_distinct (key_of bounds letters) (digests_in bytes)
