-- The walk over the choices that pass: how many it visits. Assumes nothing.
use Rattle.std.specs.Prelude.{ℕ, suc, ◌+◌, ◌*◌, ◌≤◌, ◌<◌, ◌≡◌, List, [], ◌∷◌, ◌++◌, true, false, length, take, drop}
use Rattle.std.proofs.Common.{sym, ap, ◌∙◌, arith, length-append, take-append-drop, take-take}
use Rattle.std.proofs.Math.Option.{none}
use Rattle.std.proofs.Math.Decide.{dec_lt}
use Rattle.std.proofs.lemmas.List.{take-append-le}
use Rattle.std.proofs.Math.Seq.{take-append-add}
use Rattle.lists.specs.Tests.{clash}
use Rattle.lists.specs.Lists.{keep}
use Rattle.peptide_choices.specs.BoundLaws.{visits_among}
use Rattle.peptide_choices.specs.Choices.{by_size, choices_of}
use Rattle.peptide_choices.specs.CostLaws.{cost}
use Rattle.peptide_choices.specs.Steps.{first_of}
use Rattle.peptide_choices.specs.VisitLaws.{VisitsTo, walk_visits}
use Rattle.peptide_forms.specs.Passing.{packed_passes}
use Rattle.peptide_forms.specs.PassingLaws.{bad_append, bad_begin, passes_none}
use Rattle.peptide_forms.specs.TurnLaws.{FineUpTo, reached-part}

module _ (sites rules : List ℕ) (reach : List ℕ → ℕ) (r : (c : List ℕ) → FineUpTo sites rules c (reach c)) where
  whole : (p : List ℕ) → packed_passes sites rules p ≡ true → reach p ≡ length p
  whole p h = go (dec_lt (reach p) (length p))
    where
      go : Dec (reach p < length p) → reach p ≡ length p
      go (yes g) = clash h (reached-part (r p) g)
      go (no g) = let w : reach p < length p → ⊥ = g in let b : reach p ≤ length p = (r p).within in omega arith

  part : (p : List ℕ) (a : ℕ) (c : List ℕ) → packed_passes sites rules p ≡ true → packed_passes sites rules (p ++ (a ∷ [])) ≡ false → reach (p ++ (a ∷ c)) ≡ length p
  part p a c h q = low (dec_lt (reach xs) (length p)) (dec_lt (length p) (reach xs))
    where
      xs : List ℕ
      xs = p ++ (a ∷ c)

      n : length xs ≡ length p + suc (length c)
      n = length-append p (a ∷ c)

      low : Dec (reach xs < length p) → Dec (length p < reach xs) → reach xs ≡ length p
      low (yes g) d =
          clash h (bad_begin sites rules (suc (reach xs)) xs p ((r xs).bad (omega (arith, n))) (sym (take-append-le (suc (reach xs)) p (a ∷ c) g)))
      low (no g) (yes d) =
          let t : take (length p + 1) (take (reach xs) xs) ≡ p ++ (a ∷ []) = take-take (length p + 1) (reach xs) xs (omega arith) ∙ take-append-add p (a ∷ c) 1 in
          clash (r xs).good
          (ap (packed_passes sites rules) (sym (take-append-drop (length p + 1) (take (reach xs) xs)) ∙ ap (λ (z : List ℕ). z ++ drop (length p + 1) (take (reach xs) xs)) t) ∙ bad_append sites rules (p ++ (a ∷ [])) (drop (length p + 1) (take (reach xs) xs)) q)
      low (no g) (no d) = let w : reach xs < length p → ⊥ = g in let v : length p < reach xs → ⊥ = d in omega arith

  -- the walk over the choices of n of m places ends after so many visits
  pub visits : (m n : ℕ) → VisitsTo reach m (first_of n m) (visits_among (packed_passes sites rules) [] n m 0) none
  visits m n = walk_visits (packed_passes sites rules) reach (record { whole = whole; part = part }) m n (passes_none sites rules)

-- at most those that pass, and m for each form of fewer places
pub few : (sites rules : List ℕ) (m k : ℕ) → visits_among (packed_passes sites rules) [] (suc k) m 0 ≤ length (keep (packed_passes sites rules) (choices_of (suc k) m 0)) + m * (1 + length (keep (packed_passes sites rules) (by_size m 1 k)))
few sites rules m k = cost (packed_passes sites rules) (bad_append sites rules) m k (passes_none sites rules)
