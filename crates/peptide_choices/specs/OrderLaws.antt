-- Stepping from the first choice by `choice_after` goes through all choices, in lexicographic order. Assumes nothing.
use Rattle.std.specs.Prelude.{ℕ, zero, suc, ◌+◌, ◌≤◌, ◌<◌, ◌≡◌, refl, List, [], ◌∷◌, ◌++◌, map, Bool, true, false, cond, length, ltb, leb}
use Rattle.std.proofs.Common.{ap, arith, le_of_suc-le-suc, not-suc-le-zero, zero-add, lt-ltb, le-ltb, le-leb, leb-true, leb-false}
use Rattle.std.proofs.Math.Option.{Option, none, some}
use Rattle.std.proofs.Math.Dec.{leb-zero, leb-suc-zero}
use Rattle.std.proofs.lemmas.Bool.{lt-leb}
use Rattle.lists.specs.KeepLaws.{all_both}
use Rattle.lists.specs.Lists.{up_from, All}
use Rattle.peptide_choices.specs.Choices.{choices_of}
use Rattle.peptide_choices.specs.Steps.{choice_after, first_of, move}

-- what stepping from a choice gives, at most `fuel` of them
unfoldable pub steps_from : ℕ → ℕ → Option (List ℕ) → List (List ℕ)
steps_from m zero o = []
steps_from m (suc fuel) none = []
steps_from m (suc fuel) (some c) = c ∷ steps_from m fuel (choice_after m c)

-- ---- each list of choices is a chain: it begins at o, each is the one after the one before, and none is after the last but o'
pub data Chain (m : ℕ) : Option (List ℕ) → List (List ℕ) → Option (List ℕ) → Type 0 where
  stop : {o : Option (List ℕ)} → Chain m o [] o
  go_on : {c : List ℕ} {cs : List (List ℕ)} {o : Option (List ℕ)} → Chain m (choice_after m c) cs o → Chain m (some c) (c ∷ cs) o

chain_append : {m : ℕ} {o p q : Option (List ℕ)} {xs ys : List (List ℕ)} → Chain m o xs p → Chain m p ys q → Chain m o (xs ++ ys) q
chain_append stop d = d
chain_append (go_on c) d = go_on (chain_append c d)

-- every choice has n places
abbrev pub AllLen : ℕ → List (List ℕ) → Type 0
AllLen n = All (λ (c : List ℕ). length c ≡ n)

long_under : (n a : ℕ) (xs : List (List ℕ)) → AllLen n xs → AllLen (suc n) (map (λ (c : List ℕ). a ∷ c) xs)
long_under n a [] p = tt
long_under n a (c ∷ cs) p = (ap suc p.0, long_under n a cs p.1)

pub all_long : (n len lo : ℕ) → AllLen n (choices_of n len lo)
unfolding choices_of
all_long zero len lo = (refl, tt)
all_long (suc n) zero lo = tt
all_long (suc n) (suc len) lo = all_both (λ (c : List ℕ). length c ≡ suc n) (map (λ (c : List ℕ). lo ∷ c) (choices_of n len (suc lo))) (choices_of (suc n) len (suc lo)) (long_under n lo (choices_of n len (suc lo)) (all_long n len (suc lo))) (all_long (suc n) len (suc lo))

-- what is after a choice that begins with a, by what is after its rest, which has n places
unfoldable pub lift : ℕ → ℕ → ℕ → Option (List ℕ) → Option (List ℕ)
lift m a n (some c) = some (a ∷ c)
lift m a n none = cond (ltb (a + suc n) m) (some (up_from (suc a) (suc n))) none

after-lift : (m a n : ℕ) (c : List ℕ) → length c ≡ n → choice_after m (a ∷ c) ≡ lift m a n (choice_after m c)
unfolding choice_after move lift
after-lift m a n c e = go (choice_after m c)
  where
    go : (o : Option (List ℕ)) → move m a c o ≡ lift m a n o
    go (some b) = refl
    go none = rw e

chain_under : {m : ℕ} {o q : Option (List ℕ)} {xs : List (List ℕ)} (a n : ℕ) → Chain m o xs q → AllLen n xs → Chain m (lift m a n o) (map (λ (c : List ℕ). a ∷ c) xs) (lift m a n q)
unfolding lift
chain_under a n stop p = stop
chain_under {m} a n (go_on {c = c} d) p = go_on (rw (← after-lift m a n c p.0) at (chain_under a n d p.1))

-- ---- the choices from lo
unfoldable pub first_from : ℕ → ℕ → ℕ → Option (List ℕ)
first_from n len lo = cond (leb n len) (some (up_from lo n)) none

pub next_block : (n len lo : ℕ) → lift (lo + suc len) lo n none ≡ first_from (suc n) len (suc lo)
unfolding lift first_from
next_block n len lo = go (leb (suc n) len) refl
  where
    go : (b : Bool) → leb (suc n) len ≡ b → cond (ltb (lo + suc n) (lo + suc len)) (some (up_from (suc lo) (suc n))) none ≡ cond b (some (up_from (suc lo) (suc n))) none
    go true e = rw (lt-ltb (lo + suc n) (lo + suc len) (let h : suc n ≤ len = leb-true (suc n) len e in omega arith))
    go false e = rw (le-ltb (lo + suc n) (lo + suc len) (let h : len < suc n = leb-false (suc n) len e in omega arith))

pub first_block : (n len lo : ℕ) → lift (lo + suc len) lo n (first_from n len (suc lo)) ≡ first_from (suc n) (suc len) lo
unfolding lift first_from
first_block n len lo = go (leb n len) refl
  where
    go : (b : Bool) → leb n len ≡ b → lift (lo + suc len) lo n (cond b (some (up_from (suc lo) n)) none) ≡ cond (leb (suc n) (suc len)) (some (lo ∷ up_from (suc lo) n)) none
    go true e = rw (le-leb (suc n) (suc len) (let h : n ≤ len = leb-true n len e in omega arith))
    go false e = rw (lt-leb (suc n) (suc len) (let h : len < n = leb-false n len e in omega arith), le-ltb (lo + suc n) (lo + suc len) (let h : len < n = leb-false n len e in omega arith))

chain_choices : (n len lo : ℕ) → Chain (lo + len) (first_from n len lo) (choices_of n len lo) none
unfolding choices_of first_from choice_after
chain_choices zero len lo = rw (leb-zero len) (go_on stop)
chain_choices (suc n) zero lo = rw (leb-suc-zero n) stop
chain_choices (suc n) (suc len) lo = block n len lo (chain_choices n len (suc lo)) (chain_choices (suc n) len (suc lo))
  where
    block : (n len lo : ℕ) → Chain (suc lo + len) (first_from n len (suc lo)) (choices_of n len (suc lo)) none → Chain (suc lo + len) (first_from (suc n) len (suc lo)) (choices_of (suc n) len (suc lo)) none
        → Chain (lo + suc len) (first_from (suc n) (suc len) lo) (map (λ (c : List ℕ). lo ∷ c) (choices_of n len (suc lo)) ++ choices_of (suc n) len (suc lo)) none
    block n len lo p q =
        let e : suc lo + len ≡ lo + suc len = omega arith in
        rw (← first_block n len lo)
        (chain_append (chain_under lo n (rw e at p) (all_long n len (suc lo))) (rw (next_block n len lo) (rw e at q)))

pub chain_walk : {m : ℕ} {o : Option (List ℕ)} {xs : List (List ℕ)} (fuel : ℕ) → Chain m o xs none → length xs ≤ fuel → steps_from m fuel o ≡ xs
unfolding steps_from
chain_walk {m = m} zero stop h = refl
chain_walk {m = m} (suc fuel) stop h = refl
chain_walk {m = m} zero (go_on d) h = absurd (not-suc-le-zero h)
chain_walk {m = m} (suc fuel) (go_on {c = c} d) h = ap (λ (z : List (List ℕ)). c ∷ z) (chain_walk {o = choice_after m c} fuel d (le_of_suc-le-suc h))

pub chain_first : (n m : ℕ) → Chain m (first_of n m) (choices_of n m 0) none
unfolding first_of first_from
chain_first n m = rw (zero-add m) at (chain_choices n m 0)

-- ---- the theorem
pub all_in_order : (n m fuel : ℕ) → length (choices_of n m 0) ≤ fuel → steps_from m fuel (first_of n m) ≡ choices_of n m 0
all_in_order n m fuel h = chain_walk fuel (chain_first n m) h
