-- The two loops of the listing. The inner one speaks of what it wrote since it began, the outer one of the whole. Assumes
-- nothing.
use Rattle.std.specs.Prelude.{ℕ, suc, ◌+◌, ◌-◌, ◌*◌, ◌≤◌, ◌<◌, ◌≡◌, refl, Bool, true, false, length, Some, None}
use Rattle.std.proofs.Common.{sym, ap, ◌∙◌, subst, add-one}
use mathlib.Core.List.{List, [], ◌∷◌, ◌++◌, map, append-nil}
use native.Mathlib.Omega.{arith}
use Rattle.std.proofs.lemmas.List.Edits.{sets}
use Rattle.lists.specs.Lists.{keep}
use Rattle.records.specs.RoomLaws.{Standing, standing-more}
use Rattle.peptide_choices.specs.declared.choice.Choice.{Choice}
use Rattle.peptide_choices.specs.Stepped.{Stepped}
use Rattle.peptide_choices.specs.Choices.{choices_of, by_size}
use Rattle.peptide_choices.specs.KeepLaws.{MayStepOver}
use Rattle.peptide_choices.specs.LoopLaws.{ChoicesLeft, Moved, choices-moved, choices-ended, left-first, count_left, fewer}
use Rattle.peptide_choices.specs.Steps.{begun_choice, stepped, word}
use Rattle.peptide_forms.specs.Enumeration.{most_forms, cap_reached, up_to_cap}
use Rattle.peptide_forms.specs.SizeLaws.{larger_none, sizes-none}
use Rattle.peptide_forms.specs.RunLaws.{todo, todo-same, todo_stop, todo-take, todo-none, RunSoFar, Finished, run-done, run_full}

-- at size n, with s the state of the counter; old and count₀ are from when the inner loop began
pub record Here (ok : List ℕ → Bool) (form : List ℕ → List ℕ) (m limit cap n room count₀ : ℕ) (old out : List ℕ) (count : ℕ) (s : Stepped) : Type 0 where
  pub low : 1 ≤ n
  pub high : n ≤ limit
  pub xs : List (List ℕ)
  pub left : ChoicesLeft m n s xs
  pub within : count ≤ room
  pub len : length out ≡ length old
  pub grown : count₀ ≤ count
  -- while none is taken, none of those behind passed
  pub none : count ≡ count₀ → keep ok (choices_of n m 0) ≡ keep ok xs
  pub runs : RunSoFar room (map form (todo ok cap count₀ (choices_of n m 0 ++ by_size m (suc n) (limit - n)))) old count₀ (map form (todo ok cap count (xs ++ by_size m (suc n) (limit - n)))) out count

pub record Outer (ok : List ℕ → Bool) (form : List ℕ → List ℕ) (m limit cap room : ℕ) (old out : List ℕ) (count n : ℕ) : Type 0 where
  pub low : 1 ≤ n
  pub high : n ≤ limit + 1
  pub within : count ≤ room
  pub len : length out ≡ length old
  pub runs : RunSoFar room (map form (todo ok cap 1 (by_size m 1 limit))) old 1 (map form (todo ok cap count (by_size m n (limit + 1 - n)))) out count

-- a run goes on where the forms still to come are the same
runs_as : (form : List ℕ → List ℕ) (room : ℕ) (rest₀ : List (List ℕ)) (old : List ℕ) (count₀ : ℕ) (xs ys : List (List ℕ)) (out : List ℕ) (count : ℕ) → xs ≡ ys
    → RunSoFar room rest₀ old count₀ (map form xs) out count → RunSoFar room rest₀ old count₀ (map form ys) out count
runs_as form room rest₀ old count₀ xs ys out count e run = λ first all q s h. subst (λ (z : List (List ℕ)). Standing 66 most_forms first all (map form z) out count) e (run first all q s h)

-- what the outer loop still has, at the size n
at_size : (ok : List ℕ → Bool) (m limit cap n k : ℕ) → n ≤ limit → todo ok cap k (by_size m n (limit + 1 - n)) ≡ todo ok cap k (choices_of n m 0 ++ by_size m (suc n) (limit - n))
unfolding by_size
at_size ok m limit cap n k h = ap (λ (z : ℕ). todo ok cap k (by_size m n z)) (let e : limit + 1 - n ≡ suc (limit - n) = omega arith in e)

-- all forms but the bare one
abbrev whole : (List ℕ → Bool) → (List ℕ → List ℕ) → ℕ → ℕ → ℕ → List (List ℕ)
whole ok form m limit cap = map form (todo ok cap 1 (by_size m 1 limit))

module _ {ok : List ℕ → Bool} {form : List ℕ → List ℕ} {m limit cap room : ℕ} where
  pub outer_first : {old : List ℕ} → 1 ≤ room → Outer ok form m limit cap room old old 1 1
  outer_first {old} h =
      record {
        low = omega arith;
        high = omega arith;
        within = h;
        len = refl;
        runs =
            runs_as form room (whole ok form m limit cap) old 1 (todo ok cap 1 (by_size m 1 limit)) (todo ok cap 1 (by_size m 1 (limit + 1 - 1))) old 1
            (ap (λ (z : ℕ). todo ok cap 1 (by_size m 1 z)) (let e : limit ≡ limit + 1 - 1 = omega arith in e))
            (λ first all q s g. g);
      }

  pub here_first : {n count : ℕ} {old : List ℕ} → 1 ≤ n → n ≤ limit → count ≤ room → Here ok form m limit cap n room count old old count (begun_choice n m)
  here_first {n} a b h = record { low = a; high = b; xs = choices_of n m 0; left = left-first m n; within = h; len = refl; grown = omega arith; none = λ q. refl; runs = λ first all q s g. g }

  module _ {n k₀ : ℕ} {old out : List ℕ} {k : ℕ} {c : Choice} (h : Here ok form m limit cap n room k₀ old out k (Some c)) where
    abbrev more : List (List ℕ)
    more = by_size m (suc n) (limit - n)

    abbrev start : List (List ℕ)
    start = map form (todo ok cap k₀ (choices_of n m 0 ++ more))

    module _ {kept : ℕ} (r : MayStepOver ok (word c) kept) where
      pub got : Moved ok m n kept c h.xs
      got = choices-moved ok m n kept c h.xs h.left r

      -- a choice that does not pass takes none with it that does
      pub skipped : ok (word c) ≡ false → Here ok form m limit cap n room k₀ old out k (stepped c kept)
      skipped f =
          record {
            low = h.low;
            high = h.high;
            xs = got.rest;
            left = got.next;
            within = h.within;
            len = h.len;
            grown = h.grown;
            none = λ q. h.none q ∙ ap (keep ok) (sym (append-nil h.xs)) ∙ got.no f [] ∙ ap (keep ok) (append-nil got.rest);
            runs =
                runs_as form room start old k₀ (todo ok cap k (h.xs ++ more)) (todo ok cap k (got.rest ++ more)) out k
                (todo-same ok cap k (h.xs ++ more) (got.rest ++ more) (got.no f more))
                h.runs;
          }

      -- the form of a choice that passes is the next one
      pub next_is : ok (word c) ≡ true → cap_reached cap k ≡ false → RunSoFar room start old k₀ (form (word c) ∷ map form (todo ok cap (k + 1) (got.rest ++ more))) out k
      next_is f g =
          runs_as form room start old k₀ (todo ok cap k (h.xs ++ more)) (word c ∷ todo ok cap (k + 1) (got.rest ++ more)) out k
          (ap (λ (z : List (List ℕ)). todo ok cap k (z ++ more)) (got.yes f) ∙ todo-take ok cap k (word c) (got.rest ++ more) f g)
          h.runs

      pub took : (newer : List ℕ) → ok (word c) ≡ true → cap_reached cap k ≡ false → k < room → length newer ≡ length out → newer ≡ sets out (66 * k) (form (word c))
          → Here ok form m limit cap n room k₀ old newer (k + 1) (stepped c kept)
      took newer f g i l w =
          record {
            low = h.low;
            high = h.high;
            xs = got.rest;
            left = got.next;
            within = omega arith;
            len = l ∙ h.len;
            grown = omega (arith, h.grown);
            none = λ (q : k + 1 ≡ k₀). absurd (omega (arith, h.grown));
            runs =
                λ first all q z t.
                subst (λ (o : List ℕ). Standing 66 most_forms first all (map form (todo ok cap (k + 1) (got.rest ++ more))) o (k + 1)) (sym w)
                (standing-more 66 most_forms first all z (form (word c)) (map form (todo ok cap (k + 1) (got.rest ++ more))) out k (next_is f g first all q z t) (omega arith));
          }

      pub less : count_left m n (stepped c kept) < count_left m n (Some c)
      less = fewer ok m n kept c h.xs h.left got

  module _ {n k₀ : ℕ} {old out : List ℕ} {k : ℕ} {s : Stepped} (h : Here ok form m limit cap n room k₀ old out k s) where
    pub stopped : cap_reached cap k ≡ true → RunSoFar room (map form (todo ok cap k₀ (choices_of n m 0 ++ by_size m (suc n) (limit - n)))) old k₀ [] out k
    stopped g =
        runs_as form room (map form (todo ok cap k₀ (choices_of n m 0 ++ by_size m (suc n) (limit - n)))) old k₀ (todo ok cap k (h.xs ++ by_size m (suc n) (limit - n))) [] out k
        (todo_stop ok cap k (h.xs ++ by_size m (suc n) (limit - n)) g)
        h.runs

  module _ {n k₀ : ℕ} {old out : List ℕ} {k : ℕ} (h : Here ok form m limit cap n room k₀ old out k None) where
    -- a size of which none was taken has none that passes
    pub none_of_size : k ≡ k₀ → keep ok (choices_of n m 0) ≡ []
    none_of_size q = h.none q ∙ ap (keep ok) (choices-ended m n h.xs h.left)

    pub all_of_size : RunSoFar room (map form (todo ok cap k₀ (choices_of n m 0 ++ by_size m (suc n) (limit - n)))) old k₀ (map form (todo ok cap k (by_size m (n + 1) (limit + 1 - (n + 1))))) out k
    all_of_size =
        runs_as form room (map form (todo ok cap k₀ (choices_of n m 0 ++ by_size m (suc n) (limit - n)))) old k₀ (todo ok cap k (h.xs ++ by_size m (suc n) (limit - n))) (todo ok cap k (by_size m (n + 1) (limit + 1 - (n + 1)))) out k
        (ap (λ (q : List (List ℕ)). todo ok cap k (q ++ by_size m (suc n) (limit - n))) (choices-ended m n h.xs h.left)
        ∙ ap (λ (q : ℕ). todo ok cap k (by_size m q (limit - n))) (sym (add-one n))
        ∙ ap (λ (q : ℕ). todo ok cap k (by_size m (n + 1) q)) (let g : limit - n ≡ limit + 1 - (n + 1) = omega arith in g))
        h.runs

  -- at a place of the inner loop
  module _ {first old out : List ℕ} {k₀ k n : ℕ} {s : Stepped} (o : Outer ok form m limit cap room first old k₀ n) (h : Here ok form m limit cap n room k₀ old out k s) where
    pub len_now : length out ≡ length first
    len_now = h.len ∙ o.len

    -- the run of the inner loop goes on from that of the outer one
    so_far : (rest : List (List ℕ)) → RunSoFar room (map form (todo ok cap k₀ (choices_of n m 0 ++ by_size m (suc n) (limit - n)))) old k₀ rest out k → RunSoFar room (whole ok form m limit cap) first 1 rest out k
    so_far rest run = λ f all q s t. run f all q s (runs_as form room (whole ok form m limit cap) first 1 (todo ok cap k₀ (by_size m n (limit + 1 - n))) (todo ok cap k₀ (choices_of n m 0 ++ by_size m (suc n) (limit - n))) old k₀ (at_size ok m limit cap n k₀ h.high) o.runs f all q s t)

    pub answer_cap : cap_reached cap k ≡ true → Finished room (whole ok form m limit cap) first out (Some k)
    answer_cap g = run-done room (whole ok form m limit cap) first out k (so_far [] (stopped h g))

  -- at a choice
  module _ {first old out : List ℕ} {k₀ k n : ℕ} {c : Choice} (o : Outer ok form m limit cap room first old k₀ n) (h : Here ok form m limit cap n room k₀ old out k (Some c)) where
    pub answer_no_room : {kept : ℕ} → MayStepOver ok (word c) kept → ok (word c) ≡ true → cap_reached cap k ≡ false → room ≤ k → Finished room (whole ok form m limit cap) first out None
    answer_no_room r f g q =
        let rest : List (List ℕ) = map form (todo ok cap (k + 1) ((got h r).rest ++ by_size m (suc n) (limit - n))) in
        run_full room (whole ok form m limit cap) first out k (form (word c)) rest q (so_far o h (form (word c) ∷ rest) (next_is h r f g))

  -- where none is left
  module _ {first old out : List ℕ} {k₀ k n : ℕ} (o : Outer ok form m limit cap room first old k₀ n) (h : Here ok form m limit cap n room k₀ old out k None) where
    -- after a size of which none passes no larger one has any
    nothing_left : ((p q : List ℕ) → ok p ≡ false → ok (p ++ q) ≡ false) → keep ok (choices_of n m 0) ≡ [] → (i : ℕ) → keep ok (by_size m (n + 1) i) ≡ []
    nothing_left bad e i = ap (λ (z : ℕ). keep ok (by_size m z i)) (add-one n) ∙ sizes-none ok bad m (suc n) i (larger_none ok bad m n e)

    pub answer_none : ((p q : List ℕ) → ok p ≡ false → ok (p ++ q) ≡ false) → k ≡ k₀ → Finished room (whole ok form m limit cap) first out (Some k)
    unfolding up_to_cap
    answer_none bad q =
        run-done room (whole ok form m limit cap) first out k
        (so_far o h []
        (runs_as form room (map form (todo ok cap k₀ (choices_of n m 0 ++ by_size m (suc n) (limit - n)))) old k₀ (todo ok cap k (by_size m (n + 1) (limit + 1 - (n + 1)))) [] out k
        (ap (up_to_cap cap k) (nothing_left bad (none_of_size h q) (limit + 1 - (n + 1))))
        (all_of_size h)))

    pub outer_next : Outer ok form m limit cap room first out k (n + 1)
    outer_next =
        record {
          low = omega arith;
          high = let g : n ≤ limit = h.high in omega arith;
          within = h.within;
          len = len_now o h;
          runs = so_far o h (map form (todo ok cap k (by_size m (n + 1) (limit + 1 - (n + 1))))) (all_of_size h);
        }

  pub answer_end : {first out : List ℕ} {k n : ℕ} → limit < n → Outer ok form m limit cap room first out k n → Finished room (whole ok form m limit cap) first out (Some k)
  unfolding by_size
  answer_end {first} {out} {k} {n} h o =
      let z : limit + 1 - n ≡ 0 = omega arith in
      run-done room (whole ok form m limit cap) first out k
      (runs_as form room (whole ok form m limit cap) first 1 (todo ok cap k (by_size m n (limit + 1 - n))) [] out k
      (ap (λ (q : ℕ). todo ok cap k (by_size m n q)) z ∙ todo-none ok cap k)
      o.runs)
