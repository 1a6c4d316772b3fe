-- Two ways of a test, and tests joined. Assumes nothing.
use Rattle.std.specs.Prelude.{ℕ, ◌≤◌, ◌<◌, ◌≡◌, refl, Bool, true, false, not, ◌&&◌, ◌||◌, cond, ◌⊎◌, ltb, eqb}
use Rattle.std.proofs.Common.{sym, ◌∙◌, true≢false, inl, inr, ltb-true, ltb-false, eqb-true, eq-eqb, ne_eqb}
use Rattle.std.proofs.lemmas.Bool.{false≢true, eqb-false}

pub same? : (a b : ℕ) → (a ≡ b) ⊎ (a ≡ b → ⊥)
same? a b = go (eqb a b) refl
  where
    go : (x : Bool) → eqb a b ≡ x → (a ≡ b) ⊎ (a ≡ b → ⊥)
    go true e = inl (eqb-true a b e)
    go false e = inr (eqb-false a b e)

pub below? : (a b : ℕ) → (a < b) ⊎ (b ≤ a)
below? a b = go (ltb a b) refl
  where
    go : (x : Bool) → ltb a b ≡ x → (a < b) ⊎ (b ≤ a)
    go true e = inl (ltb-true a b e)
    go false e = inr (ltb-false a b e)

pub truth? : (t : Bool) → (t ≡ true) ⊎ (t ≡ false)
truth? true = inl refl
truth? false = inr refl

-- both of two tests held
pub both : (a b : Bool) → (a && b) ≡ true → (a ≡ true) × (b ≡ true)
both true b e = (refl, e)
both false b e = absurd (true≢false (sym e))

-- neither of two tests held
pub neither : (a b : Bool) → (a || b) ≡ false → (a ≡ false) × (b ≡ false)
neither true b e = absurd (true≢false e)
neither false b e = (refl, e)

-- a test cannot be both
pub clash : {B : Type 0} {t : Bool} → t ≡ true → t ≡ false → B
clash p q = absurd (true≢false (sym p ∙ q))

pub and_within : (s a : Bool) → (a ≡ true → s ≡ true) → a ≡ (s && a)
and_within true a h = refl
and_within false true h = sym (h refl)
and_within false false h = refl

pub guard : (s a b c : Bool) → (a ≡ true → (s ≡ true) × (b ≡ c)) → (a && b) ≡ (s && (a && c))
guard s true b c h = rw ((h refl).0, (h refl).1)
guard true false b c h = refl
guard false false b c h = refl

pub inside : (s a b c : Bool) → (s ≡ true → a ≡ c) → (a && (s && b)) ≡ (s && (c && b))
inside true a b c h = rw (h refl)
inside false true b c h = refl
inside false false b c h = refl

pub or_left : (a b : Bool) → a ≡ true → (a || b) ≡ true
or_left true b h = refl
or_left false b h = absurd (false≢true h)

pub or_right : (a b : Bool) → b ≡ true → (a || b) ≡ true
or_right true b h = refl
or_right false b h = h

pub eqb-sym : (x y : ℕ) → eqb x y ≡ eqb y x
eqb-sym x y = go (eqb y x) refl
  where
    go : (t : Bool) → eqb y x ≡ t → eqb x y ≡ t
    go true e = eq-eqb x y (sym (eqb-true y x e))
    go false e = ne_eqb x y (λ q. eqb-false y x e (sym q))

pub iff : (a b : Bool) → (a ≡ true → b ≡ true) → (b ≡ true → a ≡ true) → a ≡ b
iff true b f h = sym (f refl)
iff false true f h = h refl
iff false false f h = refl

pub and_not_or : (w a b : Bool) → (w && not a) ≡ false → (w && not (a || b)) ≡ false
and_not_or true true b e = refl
and_not_or true false b e = let f : true ≡ false = e in cc
and_not_or false a b e = refl

-- a test kept as 1 or 0
pub flag_is_one : (t : Bool) → eqb (cond t 1 0) 1 ≡ t
flag_is_one true = refl
flag_is_one false = refl
