-- What a loop over the counter goes by: the choices that are left. Assumes nothing.
use Rattle.std.specs.Prelude.{ℕ, suc, ◌≤◌, ◌<◌, ◌≡◌, refl, List, [], ◌∷◌, ◌++◌, Bool, true, false, length, take, drop, replicate, Some, None, IfSome}
use Rattle.std.proofs.Common.{sym, ap, ◌∙◌, subst, arith, take_at}
use Rattle.std.proofs.Math.Option.{Option, none, some}
use Rattle.lists.specs.Lists.{keep}
use Rattle.peptide_choices.specs.Choices.{choices_of}
use Rattle.peptide_choices.specs.KeepLaws.{MayStepOver, Stepped-on, step_on, chain_end}
use Rattle.peptide_choices.specs.OrderLaws.{AllLen, Chain, all_long, chain_first, chain_walk, go_on, stop, steps_from}
use Rattle.peptide_choices.specs.Stepped.{Stepped}
use Rattle.peptide_choices.specs.Steps.{begun_choice, past, stepped, stepped_to, word}
use Rattle.peptide_choices.specs.declared.choice.Choice.{Choice}

-- the choice that a state stands at
abbrev pub current : Stepped → Option (List ℕ)
current None = none
current (Some c) = some (word c)

-- the choices xs are left, n places each
pub record ChoicesLeft (m n : ℕ) (s : Stepped) (xs : List (List ℕ)) : Type 0 where
  pub size : IfSome s (λ (c : Choice). c.n ≡ n)
  pub sites : IfSome s (λ (c : Choice). c.m ≡ m)
  pub chain : Chain m (current s) xs none
  pub all : AllLen n xs
  pub short : length xs ≤ length (choices_of n m 0)

-- the state that stands at o
left_at : {m n : ℕ} {o : Option (List ℕ)} {xs : List (List ℕ)} (c : Choice) → c.n ≡ n → c.m ≡ m → Chain m o xs none → AllLen n xs → length xs ≤ length (choices_of n m 0) → ChoicesLeft m n (stepped_to c o) xs
unfolding stepped_to
left_at c e f stop p h = record { size = tt; sites = tt; chain = stop; all = p; short = h }
left_at {m} {n} c e f (go_on {c = l} {cs = cs} d) p h =
    let w : take c.n (l ++ drop c.n c.at) ≡ l = take_at l (drop c.n c.at) c.n (p.0 ∙ sym e) in
    record { size = e; sites = f; chain = subst (λ (z : List ℕ). Chain m (some z) (l ∷ cs) none) (sym w) (go_on d); all = p; short = h }

pub left-first : (m n : ℕ) → ChoicesLeft m n (begun_choice n m) (choices_of n m 0)
unfolding begun_choice
left-first m n = left_at (record { at = replicate 8 0; n = n; m = m }) refl refl (chain_first n m) (all_long n m 0) (omega arith)

-- one turn: a choice that passes is taken, one that does not takes all with it that begin as badly
pub record Moved (ok : List ℕ → Bool) (m n kept : ℕ) (c : Choice) (xs : List (List ℕ)) : Type 0 where
  pub rest : List (List ℕ)
  pub next : ChoicesLeft m n (stepped c kept) rest
  pub shorter : length rest < length xs
  pub yes : ok (word c) ≡ true → xs ≡ word c ∷ rest
  pub no : ok (word c) ≡ false → (more : List (List ℕ)) → keep ok (xs ++ more) ≡ keep ok (rest ++ more)

pub choices-moved : (ok : List ℕ → Bool) (m n kept : ℕ) (c : Choice) (xs : List (List ℕ)) → ChoicesLeft m n (Some c) xs → MayStepOver ok (word c) kept → Moved ok m n kept c xs
unfolding stepped
choices-moved ok m n kept c xs l g = go (step_on ok kept xs g l.chain)
  where
    go : Stepped-on ok m (suc kept) (word c) xs → Moved ok m n kept c xs
    go t = record {
      rest = t.rest;
      next = left_at c l.size l.sites (subst (λ (z : ℕ). Chain m (past z (suc kept) (word c)) t.rest none) (sym l.sites) t.chain) (t.all n l.all) (omega (arith, t.shorter, l.short));
      shorter = t.shorter;
      yes = t.yes;
      no = t.no;
    }

pub choices-ended : (m n : ℕ) (xs : List (List ℕ)) → ChoicesLeft m n None xs → xs ≡ []
choices-ended m n xs l = chain_end {m = m} l.chain

-- how many are left, for the measure
unfoldable pub count_left : ℕ → ℕ → Stepped → ℕ
count_left m n s = length (steps_from m (length (choices_of n m 0)) (current s))

pub left-count : (m n : ℕ) (s : Stepped) (xs : List (List ℕ)) → ChoicesLeft m n s xs → count_left m n s ≡ length xs
unfolding count_left
left-count m n s xs l = ap length (chain_walk (length (choices_of n m 0)) l.chain l.short)

pub fewer : (ok : List ℕ → Bool) (m n kept : ℕ) (c : Choice) (xs : List (List ℕ)) → ChoicesLeft m n (Some c) xs → Moved ok m n kept c xs → count_left m n (stepped c kept) < count_left m n (Some c)
fewer ok m n kept c xs l t = omega (arith, t.shorter, left-count m n (Some c) xs l, left-count m n (stepped c kept) t.rest t.next)

-- the choice in a state has n places
pub left-wide : {m n : ℕ} {c : Choice} {xs : List (List ℕ)} → ChoicesLeft m n (Some c) xs → length (word c) ≡ n
left-wide {m} {n} {c} {xs} l = go xs l.chain l.all
  where
    go : (ys : List (List ℕ)) → Chain m (some (word c)) ys none → AllLen n ys → length (word c) ≡ n
    go [] x'' p = elim x'' [ ]
    go (d ∷ ys) (go_on e) p = p.0
