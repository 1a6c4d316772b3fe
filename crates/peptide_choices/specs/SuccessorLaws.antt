-- The successor of a choice stands behind it with nothing between, and is what the step past the whole choice answers.
-- Assumes nothing.
use Rattle.std.specs.Prelude.{ℕ, suc, ◌+◌, ◌≤◌, ◌<◌, ◌≡◌, refl, Bool, true, false, cond, ◌&&◌, List, [], ◌∷◌, ◌⊎◌, length, get_or, take, drop, leb, ltb, None}
use Rattle.std.proofs.Common.{sym, ap, ◌∙◌, subst, true≢false, ⊎_elim, inl, inr, arith, zero-add, add-one, drop_of_length-le, length-take, drop-cons, get_or-take, length-take-le, le-leb, lt-ltb, leb-true, ltb-true}
use Rattle.std.proofs.Math.Option.{Option, none, some}
use Rattle.lists.specs.Tests.{both}
use Rattle.lists.specs.Lists.{same, In}
use Rattle.lists.specs.SameLaws.{same_refl, same-eq}
use Rattle.peptide_choices.specs.Choices.{choices_of}
use Rattle.peptide_choices.specs.ListingLaws.{Ascending, Earlier, Rising, all_in, choices-all, choices_only, choices-rising}
use Rattle.peptide_choices.specs.OrderLaws.{Chain, chain_first, go_on, stop}
use Rattle.peptide_choices.specs.PruneLaws.{is_found, past_all}
use Rattle.peptide_choices.specs.Steps.{choice_after, follower, first_in, stepped, stepped_to, successor, word}
use Rattle.peptide_choices.specs.declared.choice.Choice.{Choice}

-- ---- the choices are the lists that ascend

-- c is one of the choices of n of m sites
abbrev pub IsOne : Choice → Type 0
IsOne c = In (word c) (choices_of c.n c.m 0)

pub one_of : (c : Choice) → c.n ≤ length c.at → Ascending 0 c.m (word c) → IsOne c
one_of c l h = choices-all c.n c.m 0 (word c) (subst (λ (z : ℕ). Ascending 0 z (word c)) (sym (zero-add c.m)) h) (length-take-le c.n c.at l)

pub one_ascends : (c : Choice) → IsOne c → Ascending 0 c.m (word c)
one_ascends c i = subst (λ (z : ℕ). Ascending 0 z (word c)) (zero-add c.m) (choices_only c.n c.m 0 (word c) i).0

pub one-fits : (c : Choice) → IsOne c → c.n ≤ length c.at
one-fits c i = omega (arith, (choices_only c.n c.m 0 (word c) i).1, length-take c.n c.at)

-- of the first n of xs, those from i on ascend from low exactly if all ascend
pub record Rest (n m : ℕ) (xs : List ℕ) (low i : ℕ) : Type 0 where
  pub to : Ascending low m (drop i (take n xs)) → Ascending 0 m (take n xs)
  pub from : Ascending 0 m (take n xs) → Ascending low m (drop i (take n xs))

pub rest-whole : (n m : ℕ) (xs : List ℕ) → Rest n m xs 0 0
rest-whole n m xs = record { to = λ h. h; from = λ h. h }

module _ (n m : ℕ) (xs : List ℕ) (l : n ≤ length xs) (low i : ℕ) (r : Rest n m xs low i) where
  wide : length (take n xs) ≡ n
  wide = length-take-le n xs l

  next : i < n → drop i (take n xs) ≡ get_or xs i 0 ∷ drop (i + 1) (take n xs)
  next h = drop-cons (take n xs) i 0 (omega (arith, wide)) ∙ rw (get_or-take n xs i 0 h, add-one i)

  pub rest-on : i < n → leb low (get_or xs i 0) && ltb (get_or xs i 0) m ≡ true → Rest n m xs (get_or xs i 0 + 1) (i + 1)
  rest-on h t =
      let a = get_or xs i 0 in
      let b = both (leb low a) (ltb a m) t in
      let After : ℕ → Type 0 = λ z. Ascending z m (drop (i + 1) (take n xs)) in
      record {
        to = λ g. r.to (subst (Ascending low m) (sym (next h)) (leb-true low a b.0, ltb-true a m b.1, subst After (add-one a) g));
        from = λ g. subst After (sym (add-one a)) (subst (Ascending low m) (next h) (r.from g)).2;
      }

  pub rest_stop : i < n → leb low (get_or xs i 0) && ltb (get_or xs i 0) m ≡ false → Ascending 0 m (take n xs) → ⊥
  rest_stop h t g =
      let a = get_or xs i 0 in
      let f = subst (Ascending low m) (next h) (r.from g) in
      let s : leb low a && ltb a m ≡ true = rw (le-leb low a f.0, lt-ltb a m f.1) in
      true≢false (sym s ∙ t)

  pub rest_end : n ≤ i → Ascending 0 m (take n xs)
  rest_end h = let e : length (take n xs) ≤ i = omega (arith, wide) in r.to (subst (Ascending low m) (sym (drop_of_length-le (take n xs) e)) tt)

-- ---- what stands behind a choice in the list of all is the choice after it

chain_head : {m : ℕ} {o : Option (List ℕ)} {xs : List (List ℕ)} → Chain m o xs none → o ≡ first_in xs
chain_head stop = refl
chain_head (go_on d) = refl

pub follower_in : {m : ℕ} {o : Option (List ℕ)} {xs : List (List ℕ)} (c : List ℕ) → Chain m o xs none → In c xs → follower c xs ≡ choice_after m c
unfolding follower
follower_in c stop i = absurd i
follower_in {m} c (go_on {c = d} {cs = ds} h) i = go (λ (j : In c ds). follower_in c h j) (same c d) refl
  where
    go : (In c ds → follower c ds ≡ choice_after m c) → (b : Bool) → same c d ≡ b → cond b (first_in ds) (follower c ds) ≡ choice_after m c
    go ih true e = sym (ap (choice_after m) (same-eq c d e) ∙ chain_head h)
    go ih false e = ⊎_elim (λ (q : c ≡ d). absurd (true≢false (sym (same_refl c) ∙ ap (same c) q ∙ e))) ih i

pub follower_out : (c : List ℕ) (xs : List (List ℕ)) → (In c xs → ⊥) → follower c xs ≡ none
unfolding follower
follower_out c [] h = refl
follower_out c (d ∷ ds) h = go (follower_out c ds (λ i. h (inr i))) (same c d) refl
  where
    go : follower c ds ≡ none → (b : Bool) → same c d ≡ b → cond b (first_in ds) (follower c ds) ≡ none
    go ih true e = absurd (h (inl (same-eq c d e)))
    go ih false e = ih

-- ---- the law: past the whole of a choice stands its successor
pub past-whole : (c : Choice) → IsOne c → stepped c c.n ≡ successor c
unfolding stepped successor
past-whole c i =
    let l : length (word c) ≡ c.n = (choices_only c.n c.m 0 (word c) i).1 in
    ap (stepped_to c) (past_all c.m (suc c.n) (word c) (omega arith) ∙ sym (follower_in (word c) (chain_first c.n c.m) i))

pub no_successor : (c : Choice) → (IsOne c → ⊥) → successor c ≡ None
unfolding successor stepped_to
no_successor c h = ap (stepped_to c) (follower_out (word c) (choices_of c.n c.m 0) h)

-- ---- nothing stands between: of a list in order each stands up to c, or from what follows c on

-- c stands before d or is it
abbrev pub UpTo : List ℕ → List ℕ → Type 0
UpTo c d = (c ≡ d) ⊎ Earlier c d

pub record Follows (c d : List ℕ) (xs : List (List ℕ)) : Type 0 where
  pub here : In c xs
  pub behind : Earlier c d
  pub between : (x : List ℕ) → In x xs → UpTo x c ⊎ UpTo d x

next-first : (c d : List ℕ) (ys : List (List ℕ)) → Rising (c ∷ ys) → first_in ys ≡ some d → Follows c d (c ∷ ys)
unfolding is_found
next-first c d [] o e = absurd (true≢false (sym (ap is_found e)))
next-first c d (y ∷ ys) o e =
    let w : y ≡ d = cc in
    let rest : (x : List ℕ) → In x (y ∷ ys) → UpTo y x = λ x. ⊎_elim (λ (q : x ≡ y). inl (sym q)) (λ (i : In x ys). inr (all_in (Earlier y) x ys o.1.0 i)) in
    subst (λ (z : List ℕ). Follows c z (c ∷ y ∷ ys)) w
    (record { here = inl refl; behind = o.0.0; between = λ x. ⊎_elim (λ (q : x ≡ c). inl (inl q)) (λ (i : In x (y ∷ ys)). inr (rest x i)) })

pub follower-next : (c d : List ℕ) (xs : List (List ℕ)) → Rising xs → follower c xs ≡ some d → Follows c d xs
unfolding follower is_found
follower-next c d [] o e = absurd (true≢false (sym (ap is_found e)))
follower-next c d (y ∷ ys) o e = go (λ (q : follower c ys ≡ some d). follower-next c d ys o.1 q) (same c y) refl e
  where
    later : Follows c d ys → Follows c d (y ∷ ys)
    later n = record {
      here = inr n.here;
      behind = n.behind;
      between = λ x. ⊎_elim (λ (q : x ≡ y). inl (inr (subst (λ (z : List ℕ). Earlier z c) (sym q) (all_in (Earlier y) c ys o.0 n.here)))) (n.between x);
    }

    go : (follower c ys ≡ some d → Follows c d ys) → (b : Bool) → same c y ≡ b → cond b (first_in ys) (follower c ys) ≡ some d → Follows c d (y ∷ ys)
    go ih true s q = let w : y ≡ c = sym (same-eq c y s) in subst (λ (z : List ℕ). Follows c d (z ∷ ys)) (sym w) (next-first c d ys (subst (λ (z : List ℕ). Rising (z ∷ ys)) w o) q)
    go ih false s q = later (ih q)

pub next_in_order : (n m : ℕ) (c d : List ℕ) → follower c (choices_of n m 0) ≡ some d → Follows c d (choices_of n m 0)
next_in_order n m c d = follower-next c d (choices_of n m 0) (choices-rising n m 0)
