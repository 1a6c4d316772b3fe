-- The greatest group is one, and where edges remain it has some. Assumes nothing.
use Rattle.std.specs.Prelude.{Bool, ◌&&◌, ◌||◌, List, [], ◌∷◌, leb, ltb, length, ◌≡◌}
use Rattle.std.proofs.Math.Bool.{true, false, cond}
use Rattle.std.proofs.Common.{true≢false, sym}
use Rattle.std.proofs.lemmas.Bool.{false≢true}
use Prim.Native.Nat.{ℕ, zero, suc, ◌≤◌, ◌<◌}
use Rattle.std.proofs.Math.Dec.{eqb}
use Rattle.std.proofs.Math.Path.{refl}
use native.Mathlib.Omega.{arith}
use borrow.Author.Tests.{eqb-true, eqb-false, ltb-true, ltb-false, leb-true, leb-false, eq-eqb}
use Rattle.lists.specs.Lists.{All}
use Rattle.cover_spec.specs.Cover.{Edge, group, of_group, not_above, greatest, choice}

-- ---- the order of the choice: remaining edges, then original edges, then the number

abbrev pub Lex : (ℕ → ℕ) → (ℕ → ℕ) → ℕ → ℕ → Type 0
Lex d o a b = (d a ≤ d b) × (d a ≡ d b → (o a ≤ o b) × (o a ≡ o b → a ≤ b))

module _ (d o : ℕ → ℕ) where
  lex_refl : (a : ℕ) → Lex d o a a
  lex_refl a = (omega arith, λ e. (omega arith, λ r. omega arith))

  lex_trans : (a b c : ℕ) → Lex d o a b → Lex d o b c → Lex d o a c
  lex_trans a b c f h = (
    omega arith,
    λ e.
        let u = f.1 (omega arith) in let v = h.1 (omega arith) in
        (omega arith, λ r. let x = u.1 (omega arith) in let y = v.1 (omega arith) in omega arith),
  )

  pub lex_anti : (a b : ℕ) → Lex d o a b → Lex d o b a → a ≡ b
  lex_anti a b f h =
      let u = f.1 (omega arith) in let v = h.1 (omega arith) in
      let x = u.1 (omega arith) in let y = v.1 (omega arith) in omega arith

  lex_yes : (b n : ℕ) → b ≤ n → (ltb (d b) (d n) || eqb (d b) (d n) && leb (o b) (o n)) ≡ true → Lex d o b n
  lex_yes b n h = go (ltb (d b) (d n)) refl (eqb (d b) (d n)) refl (leb (o b) (o n)) refl
    where
      go : (x : Bool) → ltb (d b) (d n) ≡ x → (y : Bool) → eqb (d b) (d n) ≡ y → (z : Bool) → leb (o b) (o n) ≡ z → (x || y && z) ≡ true → Lex d o b n
      go true i y j z k t = (omega (arith, ltb-true (d b) (d n) i), λ e. absurd (omega (arith, ltb-true (d b) (d n) i)))
      go false i true j true k t = (omega (arith, eqb-true (d b) (d n) j), λ e. (leb-true (o b) (o n) k, λ r. h))
      go false i true j false k t = absurd (false≢true t)
      go false i false j z k t = absurd (false≢true t)

  lex_no : (b n : ℕ) → (ltb (d b) (d n) || eqb (d b) (d n) && leb (o b) (o n)) ≡ false → Lex d o n b
  lex_no b n = go (ltb (d b) (d n)) refl (eqb (d b) (d n)) refl (leb (o b) (o n)) refl
    where
      go : (x : Bool) → ltb (d b) (d n) ≡ x → (y : Bool) → eqb (d b) (d n) ≡ y → (z : Bool) → leb (o b) (o n) ≡ z → (x || y && z) ≡ false → Lex d o n b
      go true i y j z k t = absurd (true≢false t)
      go false i true j true k t = absurd (true≢false t)
      go false i true j false k t =
          (ltb-false (d b) (d n) i, λ e. (omega (arith, leb-false (o b) (o n) k), λ r. absurd (omega (arith, leb-false (o b) (o n) k))))
      go false i false j z k t =
          (ltb-false (d b) (d n) i, λ e. absurd (eqb-false (d b) (d n) j (sym e)))

pub lex_cast : (d o d' o' : ℕ → ℕ) (a b : ℕ) → d a ≡ d' a → d b ≡ d' b → o a ≡ o' a → o b ≡ o' b → Lex d o a b → Lex d' o' a b
lex_cast d o d' o' a b p q u v h =
    (omega arith, λ e. let x = h.1 (omega arith) in (omega arith, λ r. let y = x.1 (omega arith) in omega arith))

-- ---- the greatest group

module _ (d o : ℕ → ℕ) where
  greatest-le : (n : ℕ) → greatest d o n ≤ n
  unfolding greatest
  greatest-le zero = omega arith
  greatest-le (suc n) = go (not_above d o (greatest d o n) n) (greatest-le n)
    where
      go : (b : Bool) → greatest d o n ≤ n → cond b n (greatest d o n) ≤ suc n
      go true h = omega arith
      go false h = omega arith

  pub greatest_lt : (n : ℕ) → 0 < n → greatest d o n < n
  unfolding greatest
  greatest_lt zero h = h
  greatest_lt (suc n) h = go (not_above d o (greatest d o n) n) (greatest-le n)
    where
      go : (b : Bool) → greatest d o n ≤ n → cond b n (greatest d o n) < suc n
      go true k = omega arith
      go false k = omega arith

  pub greatest-max : (n g : ℕ) → g < n → Lex d o g (greatest d o n)
  unfolding greatest
  greatest-max zero g h = absurd (omega arith)
  greatest-max (suc n) g h = go (not_above d o (greatest d o n) n) refl (eqb g n) refl (greatest-max n g) (greatest-le n)
    where
      go : (b : Bool) → not_above d o (greatest d o n) n ≡ b → (c : Bool) → eqb g n ≡ c → (g < n → Lex d o g (greatest d o n)) → greatest d o n ≤ n
          → Lex d o g (cond b n (greatest d o n))
      go true i true j r k = rw (eqb-true g n j) (lex_refl d o n)
      go true i false j r k = lex_trans d o g (greatest d o n) n (r (omega (arith, eqb-false g n j))) (lex_yes d o (greatest d o n) n k i)
      go false i true j r k = rw (eqb-true g n j) (lex_no d o (greatest d o n) n i)
      go false i false j r k = r (omega (arith, eqb-false g n j))

abbrev pub GroupsUnder : ℕ → List Edge → Type 0
GroupsUnder n l = All (λ e. group e < n) l

-- where an edge remains, the choice has one
pub choice-has : (all l : List Edge) (n : ℕ) → GroupsUnder n l → 0 < length l → 0 < of_group (choice all l n) l
choice-has all [] n u h = absurd (omega arith)
choice-has all (e ∷ l) n u h =
    omega (arith, has, (greatest-max (λ g. of_group g (e ∷ l)) (λ g. of_group g all) n (group e) u.0).0)
  where
    has : 0 < of_group (group e) (e ∷ l)
    has = rw (eq-eqb (group e) (group e) refl) (omega arith)
