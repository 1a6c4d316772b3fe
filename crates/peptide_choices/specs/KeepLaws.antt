-- The choices that pass a test, and the walk that leaves out at once all that begin badly. Assumes nothing.
use Prim.Native.Nat.{ℕ, zero, suc, ◌≤◌, ◌<◌}
use Rattle.std.specs.Prelude.{◌≡◌, Bool, true, false, cond, take}
use Rattle.std.proofs.Math.Path.{refl, ap}
use Rattle.std.proofs.Common.{sym, ◌∙◌, subst, true≢false, arith, not-suc-le-zero, length-append}
use mathlib.Core.List.{List, [], ◌∷◌, ◌++◌, append_assoc, append-nil}
use Rattle.std.proofs.Math.Option.{Option, none, some}
use Rattle.std.proofs.Math.ListN.{length}
use Rattle.peptide_choices.specs.ListingLaws.{all_in}
use Rattle.lists.specs.KeepLaws.{all_append}
use Rattle.lists.specs.Lists.{keep, In}
use Rattle.peptide_choices.specs.Choices.{choices_of}
use Rattle.peptide_choices.specs.OrderLaws.{AllLen, Chain, chain_first, go_on, stop}
use Rattle.peptide_choices.specs.PruneLaws.{AllBegin, Cut, cut, past_all}
use Rattle.peptide_choices.specs.Steps.{choice_after, first_of, past}

-- the counter may step over all that begin with the first kept + 1 places of c: a choice that passes has no more places,
-- and where c does not pass, nothing that begins with those does
pub record MayStepOver (ok : List ℕ → Bool) (c : List ℕ) (kept : ℕ) : Type 0 where
  pub whole : ok c ≡ true → length c ≤ suc kept
  pub bad : ok c ≡ false → (d : List ℕ) → take (suc kept) d ≡ take (suc kept) c → ok d ≡ false

module _ (ok : List ℕ → Bool) where
  pub keep_yes : (c : List ℕ) (cs : List (List ℕ)) → ok c ≡ true → keep ok (c ∷ cs) ≡ c ∷ keep ok cs
  keep_yes c cs h = rw h

  pub keep_no : (c : List ℕ) (cs : List (List ℕ)) → ok c ≡ false → keep ok (c ∷ cs) ≡ keep ok cs
  keep_no c cs h = rw h

  -- being bad is inherited: all that begin with p are left out at once
  pub keep_bad : (e : ℕ) (p : List ℕ) (xs rest : List (List ℕ)) → ((d : List ℕ) → take e d ≡ p → ok d ≡ false) → AllBegin e p xs → keep ok (xs ++ rest) ≡ keep ok rest
  keep_bad e p [] rest h a = refl
  keep_bad e p (c ∷ xs) rest h a = keep_no c (xs ++ rest) (h c a.0) ∙ keep_bad e p xs rest h a.1

-- ---- the pruned walk: `reach c` places of c are fine
unfoldable pub pruned : (List ℕ → Bool) → (List ℕ → ℕ) → ℕ → ℕ → Option (List ℕ) → List (List ℕ)
pruned ok reach m zero o = []
pruned ok reach m (suc fuel) none = []
pruned ok reach m (suc fuel) (some c) = let rest = pruned ok reach m fuel (past m (suc (reach c)) c) in cond (ok c) (c ∷ rest) rest

-- one step of it: what is left is shorter, and a choice that does not pass takes none that passes with it
pub record Stepped-on (ok : List ℕ → Bool) (m e : ℕ) (c : List ℕ) (xs : List (List ℕ)) : Type 0 where
  pub rest : List (List ℕ)
  pub chain : Chain m (past m e c) rest none
  pub shorter : length rest < length xs
  pub yes : ok c ≡ true → xs ≡ c ∷ rest
  pub no : ok c ≡ false → (more : List (List ℕ)) → keep ok (xs ++ more) ≡ keep ok (rest ++ more)
  pub all : (n : ℕ) → AllLen n xs → AllLen n rest

chain_inv : {m : ℕ} {l : List ℕ} {xs : List (List ℕ)} → Chain m (some l) xs none → (ys : List (List ℕ)) × (xs ≡ l ∷ ys) × Chain m (choice_after m l) ys none
chain_inv (go_on {cs = cs} d) = (cs, refl, d)

pub step_on : (ok : List ℕ → Bool) {m : ℕ} (kept : ℕ) {c : List ℕ} (xs : List (List ℕ)) → MayStepOver ok c kept → Chain m (some c) xs none → Stepped-on ok m (suc kept) c xs
step_on ok {m} kept {c} xs s d = go (ok c) refl
  where
    yes_case : ok c ≡ true → (t : (ys : List (List ℕ)) × (xs ≡ c ∷ ys) × Chain m (choice_after m c) ys none) → Stepped-on ok m (suc kept) c xs
    yes_case h t = record {
      rest = t.0;
      chain = subst (λ (o : Option (List ℕ)). Chain m o t.0 none) (sym (past_all m (suc kept) c (s.whole h))) t.2;
      shorter = omega (arith, ap length t.1);
      yes = λ g. t.1;
      no = λ g. absurd (true≢false (sym h ∙ g));
      all = λ n a. (subst (AllLen n) t.1 a).1;
    }

    no_case : ok c ≡ false → Cut m (suc kept) c xs → Stepped-on ok m (suc kept) c xs
    no_case h k = record {
      rest = k.rest;
      chain = k.chain;
      shorter = omega (arith, ap length k.is ∙ length-append (c ∷ k.out) k.rest);
      yes = λ g. absurd (true≢false (sym g ∙ h));
      no = λ g more. ap (λ (z : List (List ℕ)). keep ok (z ++ more)) k.is
          ∙ ap (keep ok) (append_assoc (c ∷ k.out) k.rest more)
          ∙ keep_bad ok (suc kept) (take (suc kept) c) (c ∷ k.out) (k.rest ++ more) (s.bad h) k.begin;
      all = λ n a. (all_append (λ (d : List ℕ). length d ≡ n) (c ∷ k.out) k.rest (subst (AllLen n) k.is a)).1;
    }

    go : (b : Bool) → ok c ≡ b → Stepped-on ok m (suc kept) c xs
    go true h = yes_case h (chain_inv d)
    go false h = no_case h (cut (suc kept) xs d)

-- ---- what is skipped never passes: out is all that stands between c and the successor that the counter answers
pub skipped_never : (ok : List ℕ → Bool) {m : ℕ} (kept : ℕ) {c : List ℕ} (xs : List (List ℕ)) → MayStepOver ok c kept → ok c ≡ false → (k : Cut m (suc kept) c xs) → (d : List ℕ) → In d (c ∷ k.out) → ok d ≡ false
skipped_never ok kept {c} xs s e k d i = s.bad e d (all_in (λ (x : List ℕ). take (suc kept) x ≡ take (suc kept) c) d (c ∷ k.out) k.begin i)

-- ---- the theorem: the pruned walk yields exactly the choices that pass, in order
pub chain_end : {m : ℕ} {xs : List (List ℕ)} → Chain m none xs none → xs ≡ []
chain_end stop = refl

module _ (ok : List ℕ → Bool) (reach : List ℕ → ℕ) (sound : (c : List ℕ) → MayStepOver ok c (reach c)) (m : ℕ) where
  pruned-keep : (fuel : ℕ) (o : Option (List ℕ)) (xs : List (List ℕ)) → Chain m o xs none → length xs ≤ fuel → pruned ok reach m fuel o ≡ keep ok xs
  unfolding pruned
  pruned-keep zero o [] d h = refl
  pruned-keep zero o (c ∷ xs) d h = absurd (not-suc-le-zero h)
  pruned-keep (suc fuel) none xs d h = ap (keep ok) (sym (chain_end d))
  pruned-keep (suc fuel) (some c) xs d h = next (pruned-keep fuel) (step_on ok (reach c) xs (sound c) d)
    where
      next : ((o : Option (List ℕ)) (xs : List (List ℕ)) → Chain m o xs none → length xs ≤ fuel → pruned ok reach m fuel o ≡ keep ok xs) → Stepped-on ok m (suc (reach c)) c xs → pruned ok reach m (suc fuel) (some c) ≡ keep ok xs
      next ih k = go (ok c) refl
        where
          same : pruned ok reach m fuel (past m (suc (reach c)) c) ≡ keep ok k.rest
          same = ih (past m (suc (reach c)) c) k.rest k.chain (omega (arith, k.shorter))

          go : (b : Bool) → ok c ≡ b → cond b (c ∷ pruned ok reach m fuel (past m (suc (reach c)) c)) (pruned ok reach m fuel (past m (suc (reach c)) c)) ≡ keep ok xs
          go true e = ap (λ (z : List (List ℕ)). c ∷ z) same ∙ sym (keep_yes ok c k.rest e) ∙ ap (keep ok) (sym (k.yes e))
          go false e =
              same
              ∙ ap (keep ok) (sym (append-nil k.rest))
              ∙ sym (k.no e [])
              ∙ ap (keep ok) (append-nil xs)

  pub pruned_is : (n fuel : ℕ) → length (choices_of n m 0) ≤ fuel → pruned ok reach m fuel (first_of n m) ≡ keep ok (choices_of n m 0)
  pruned_is n fuel h = pruned-keep fuel (first_of n m) (choices_of n m 0) (chain_first n m) h
