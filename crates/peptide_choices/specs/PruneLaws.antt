-- Leaving out at once all choices that begin with the first e places of one. Assumes nothing.
use Rattle.std.specs.Prelude.{ℕ, zero, suc, ◌+◌, ◌≤◌, ◌≡◌, refl, List, [], ◌∷◌, ◌++◌, ◌⊎◌, Bool, true, false, cond, length, take, ltb}
use Rattle.std.proofs.Common.{sym, ap, ◌∙◌, subst, inl, inr, ⊎_elim, true≢false, le_of_suc-le-suc, not-suc-le-zero}
use Rattle.std.proofs.Math.Option.{Option, none, some}
use Rattle.lists.specs.RowLaws.{length_up}
use Rattle.lists.specs.Lists.{up_from, All}
use Rattle.peptide_choices.specs.OrderLaws.{Chain, go_on}
use Rattle.peptide_choices.specs.Steps.{choice_after, move, past}

-- from e on every place may move
pub past_all : (m e : ℕ) (c : List ℕ) → length c ≤ e → past m e c ≡ choice_after m c
unfolding past choice_after
past_all m zero [] h = refl
past_all m zero (a ∷ c) h = absurd (not-suc-le-zero h)
past_all m (suc e) [] h = refl
past_all m (suc e) (a ∷ c) h = ap (move m a c) (past_all m e c (le_of_suc-le-suc h))

-- the choice after c begins as c does, and so does what is past them
pub record StepsWithin (m e : ℕ) (c : List ℕ) : Type 0 where
  pub to : List ℕ
  pub next : choice_after m c ≡ some to
  pub begins : take e to ≡ take e c
  pub size : length to ≡ length c
  pub on : past m e to ≡ past m e c

unfoldable pub is_found : Option (List ℕ) → Bool
is_found none = false
is_found (some c) = true

-- the choice after a choice has as many places
pub length-after : (m : ℕ) (c d : List ℕ) → choice_after m c ≡ some d → length d ≡ length c
unfolding choice_after move is_found
length-after m [] d h = absurd (true≢false (sym (ap is_found h)))
length-after m (a ∷ c) d h = go (length-after m c) (choice_after m c) refl h
  where
    fix : (b : Bool) → cond b (some (up_from (suc a) (suc (length c)))) none ≡ some d → length d ≡ suc (length c)
    fix true g = let e : d ≡ up_from (suc a) (suc (length c)) = cc in ap length e ∙ length_up (suc a) (suc (length c))
    fix false g = absurd (true≢false (sym (ap is_found g)))

    go : ((b : List ℕ) → choice_after m c ≡ some b → length b ≡ length c) → (o : Option (List ℕ)) → choice_after m c ≡ o → move m a c o ≡ some d → length d ≡ suc (length c)
    go ih (some b) e g = let w : d ≡ a ∷ b = cc in ap length w ∙ ap suc (ih b e)
    go ih none e g = fix (ltb (a + suc (length c)) m) g

pub step : (m e : ℕ) (c : List ℕ) → (choice_after m c ≡ past m e c) ⊎ StepsWithin m e c
unfolding choice_after past move
step m zero c = go (choice_after m c) refl
  where
    go : (o : Option (List ℕ)) → choice_after m c ≡ o → (choice_after m c ≡ none) ⊎ StepsWithin m zero c
    go none h = inl h
    go (some d) h = inr (record { to = d; next = h; begins = refl; size = length-after m c d h; on = refl })
step m (suc e) [] = inl refl
step m (suc e) (a ∷ c) = ⊎_elim same within (step m e c)
  where
    same : choice_after m c ≡ past m e c → (move m a c (choice_after m c) ≡ move m a c (past m e c)) ⊎ StepsWithin m (suc e) (a ∷ c)
    same h = inl (ap (move m a c) h)

    len : (x y : List ℕ) → length x ≡ length y → (o : Option (List ℕ)) → move m a x o ≡ move m a y o
    len x y h (some b) = refl
    len x y h none = rw h

    within : StepsWithin m e c → (move m a c (choice_after m c) ≡ move m a c (past m e c)) ⊎ StepsWithin m (suc e) (a ∷ c)
    within w = inr (record {
      to = a ∷ w.to;
      next = ap (move m a c) w.next;
      begins = ap (λ (z : List ℕ). a ∷ z) w.begins;
      size = ap suc w.size;
      on = ap (move m a w.to) w.on ∙ len w.to c w.size (past m e c);
    })

-- every choice of xs begins with p
abbrev pub AllBegin : ℕ → List ℕ → List (List ℕ) → Type 0
AllBegin e p = All (λ (c : List ℕ). take e c ≡ p)

-- ---- the law: of the choices from c on, those that begin with c's first e places come first, and what is past them follows
pub record Cut (m e : ℕ) (c : List ℕ) (xs : List (List ℕ)) : Type 0 where
  pub out : List (List ℕ)
  pub rest : List (List ℕ)
  pub is : xs ≡ (c ∷ out) ++ rest
  pub begin : AllBegin e (take e c) (c ∷ out)
  pub chain : Chain m (past m e c) rest none

pub cut : {m : ℕ} (e : ℕ) {c : List ℕ} (xs : List (List ℕ)) → Chain m (some c) xs none → Cut m e c xs
cut {m = m} e {c = c} [] x' = elim x' [ ]
cut {m} e {c} (c₁ ∷ xs) (go_on d) = ⊎_elim here (λ w. more w (cut e xs (subst (λ (o : Option (List ℕ)). Chain m o xs none) w.next d))) (step m e c)
  where
    here : choice_after m c ≡ past m e c → Cut m e c (c ∷ xs)
    here h = record { out = []; rest = xs; is = refl; begin = (refl, tt); chain = subst (λ (o : Option (List ℕ)). Chain m o xs none) h d }

    more : (w : StepsWithin m e c) → Cut m e w.to xs → Cut m e c (c ∷ xs)
    more w k = record {
      out = w.to ∷ k.out;
      rest = k.rest;
      is = ap (λ (z : List (List ℕ)). c ∷ z) k.is;
      begin = (refl, subst (λ (z : List ℕ). AllBegin e z (w.to ∷ k.out)) w.begins k.begin);
      chain = subst (λ (o : Option (List ℕ)). Chain m o k.rest none) w.on k.chain;
    }
