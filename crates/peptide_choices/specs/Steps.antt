-- What the counter of choices answers: the successor of a choice, or the one that differs from it among its first places.
use Rattle.std.specs.Prelude.{ℕ, zero, suc, ◌+◌, cond, List, [], ◌∷◌, ◌++◌, length, take, drop, replicate, ltb, leb, Some, None}
use Rattle.std.proofs.Math.Option.{Option, none, some}
use Rattle.lists.specs.Lists.{same, up_from}
use Rattle.peptide_choices.specs.Choices.{choices_of}
use Rattle.peptide_choices.specs.Stepped.{Stepped}
use Rattle.peptide_choices.specs.declared.choice.Choice.{Choice}

-- the first choice of n of m places
unfoldable pub first_of : ℕ → ℕ → Option (List ℕ)
first_of n m = cond (leb n m) (some (up_from 0 n)) none

-- the choice after one that begins with a, by the one after its rest: where there is none, a moves and the rest follows it
unfoldable pub move : ℕ → ℕ → List ℕ → Option (List ℕ) → Option (List ℕ)
move m a rest (some bs) = some (a ∷ bs)
move m a rest none = cond (ltb (a + suc (length rest)) m) (some (up_from (suc a) (suc (length rest)))) none

-- the choice after a choice of places below m
unfoldable pub choice_after : ℕ → List ℕ → Option (List ℕ)
unfolding move
choice_after m [] = none
choice_after m (a ∷ rest) = move m a rest (choice_after m rest)

-- the first choice after c that differs from c among its first e places: all that begin with those are left out
unfoldable pub past : ℕ → ℕ → List ℕ → Option (List ℕ)
unfolding move
past m zero c = none
past m (suc e) [] = none
past m (suc e) (a ∷ rest) = move m a rest (past m e rest)

-- the places of a choice
abbrev pub word : Choice → List ℕ
word c = take c.n c.at

-- the answer that is a choice, or none; the places past n stay
unfoldable pub stepped_to : Choice → Option (List ℕ) → Stepped
stepped_to c none = None
stepped_to c (some l) = Some (record { at = l ++ drop c.n c.at; n = c.n; m = c.m })

-- the first of a list
abbrev pub first_in : List (List ℕ) → Option (List ℕ)
first_in [] = none
first_in (c ∷ cs) = some c

-- what stands right behind c in a list, or none
unfoldable pub follower : List ℕ → List (List ℕ) → Option (List ℕ)
follower c [] = none
follower c (d ∷ ds) = let rest = follower c ds in cond (same c d) (first_in ds) rest

-- the successor of c among all choices of n of m sites, which stand in lexicographic order, or that none is left; what is no
-- such choice has none
unfoldable pub successor : Choice → Stepped
unfolding stepped_to follower choices_of
successor c = stepped_to c (follower (word c) (choices_of c.n c.m 0))

-- the choice after all that begin with c's first kept + 1 places, or none
unfoldable pub stepped : Choice → ℕ → Stepped
unfolding stepped_to
stepped c kept = stepped_to c (past c.m (suc kept) (word c))

unfoldable pub begun_choice : ℕ → ℕ → Stepped
unfolding stepped_to
begun_choice n m = stepped_to (record { at = replicate 8 0; n = n; m = m }) (first_of n m)
