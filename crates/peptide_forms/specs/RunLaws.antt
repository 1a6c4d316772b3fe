-- What the listing goes by: the choices still to come, a form by the table of the fixed rules, and how a run ends. Assumes
-- nothing.
use Rattle.std.specs.Prelude.{ℕ, zero, suc, ◌+◌, ◌≤◌, ◌<◌, ◌≡◌, Bool, true, false, not, length, get_or, take, drop, eqb, Some, None, is_some, IfSome}
use Rattle.std.proofs.Math.Path.{refl, ap}
use Rattle.std.proofs.Common.{sym, ◌∙◌, arith, add-one, get_or-take, length-take-le, le-leb, ne_eqb}
use Rattle.std.proofs.Math.Bool.{and-false}
use mathlib.Core.List.{List, [], ◌∷◌}
use Rattle.std.proofs.lemmas.Bool.{lt-leb}
use Rattle.lists.specs.Lists.{keep}
use Rattle.records.specs.Room.{room_of, fits, fitted}
use Rattle.records.specs.RoomLaws.{Sized, Standing, standing-done, standing_full}
use Rattle.peptide_choices.specs.KeepLaws.{keep_yes}
use Rattle.peptide_slots.specs.Filling.{fill_site, apply}
use Rattle.peptide_slots.specs.FillLaws.{apply-on, apply_end, length-apply}
use Rattle.peptide_slots.specs.Overlays.{overlay}
use Rattle.peptide_slots.specs.OverlayLaws.{length-overlay}
use Rattle.peptide_forms.specs.Listed.{Listed}
use Rattle.peptide_forms.specs.Enumeration.{most_forms, no_cap, cap_reached, up_to_cap}
use Rattle.peptide_forms.specs.Packed.{packed_chosen}

-- ---- the cap

abbrev pub todo : (List ℕ → Bool) → ℕ → ℕ → List (List ℕ) → List (List ℕ)
todo ok cap k xs = up_to_cap cap k (keep ok xs)

-- the counts that a list may have stay below "no cap"
pub cap_reached_lem : (cap k : ℕ) → k ≤ most_forms → cap ≤ k → cap_reached cap k ≡ true
cap_reached_lem cap k b h = rw (ne_eqb cap no_cap (λ (e : cap ≡ no_cap). omega arith), le-leb cap k h)

pub cap_ahead : (cap k : ℕ) → k < cap → cap_reached cap k ≡ false
cap_ahead cap k h = rw (lt-leb cap k h) (and-false (not (eqb cap no_cap)))

module _ (ok : List ℕ → Bool) (cap k : ℕ) where
  pub todo-same : (xs ys : List (List ℕ)) → keep ok xs ≡ keep ok ys → todo ok cap k xs ≡ todo ok cap k ys
  todo-same xs ys e = ap (up_to_cap cap k) e

  pub todo_stop : (xs : List (List ℕ)) → cap_reached cap k ≡ true → todo ok cap k xs ≡ []
  unfolding up_to_cap
  todo_stop xs h = go (keep ok xs)
    where
      go : (ys : List (List ℕ)) → up_to_cap cap k ys ≡ []
      go [] = refl
      go (c ∷ ys) = rw h

  pub todo-take : (c : List ℕ) (cs : List (List ℕ)) → ok c ≡ true → cap_reached cap k ≡ false → todo ok cap k (c ∷ cs) ≡ c ∷ todo ok cap (k + 1) cs
  unfolding up_to_cap
  todo-take c cs e h = ap (up_to_cap cap k) (keep_yes ok c cs e) ∙ rw (h, add-one)

  pub todo-none : todo ok cap k [] ≡ []
  unfolding up_to_cap
  todo-none = refl

-- ---- the form of a choice, the fixed rules by their table

unfoldable pub quick : List ℕ → List ℕ → List ℕ → List ℕ → List ℕ → List ℕ
unfolding apply packed_chosen overlay
quick bare table sites rules c = overlay table (apply rules bare (packed_chosen sites c))

pub length-quick : (bare table sites rules c : List ℕ) → length (quick bare table sites rules c) ≡ length bare
unfolding quick
length-quick bare table sites rules c = length-overlay table (apply rules bare (packed_chosen sites c)) ∙ length-apply rules bare (packed_chosen sites c)

length-chosen : (sites c : List ℕ) → length (packed_chosen sites c) ≡ length c
unfolding packed_chosen
length-chosen sites [] = refl
length-chosen sites (k ∷ c) = ap suc (length-chosen sites c)

get_or-chosen : (sites c : List ℕ) (i : ℕ) → i < length c → get_or (packed_chosen sites c) i 0 ≡ get_or sites (get_or c i 0) 0
unfolding packed_chosen
get_or-chosen sites [] i h = absurd (omega arith)
get_or-chosen sites (k ∷ c) zero h = refl
get_or-chosen sites (k ∷ c) (suc i) h = get_or-chosen sites c i (omega arith)

-- one more of the chosen sites
pub chosen_on : (rules form sites xs : List ℕ) (n j site : ℕ) → n ≤ length xs → j < n → site ≡ get_or sites (get_or xs j 0) 0
    → apply rules (fill_site rules form site) (drop (j + 1) (packed_chosen sites (take n xs))) ≡ apply rules form (drop j (packed_chosen sites (take n xs)))
chosen_on rules form sites xs n j site l h e =
    let k : length (take n xs) ≡ n = length-take-le n xs l in
    let m : length (packed_chosen sites (take n xs)) ≡ length (take n xs) = length-chosen sites (take n xs) in
    let g : get_or (packed_chosen sites (take n xs)) j 0 ≡ site = get_or-chosen sites (take n xs) j (omega arith) ∙ ap (λ (z : ℕ). get_or sites z 0) (get_or-take n xs j 0 h) ∙ sym e in
    ap (λ (z : ℕ). apply rules (fill_site rules form z) (drop (j + 1) (packed_chosen sites (take n xs)))) (sym g)
    ∙ apply-on rules form (packed_chosen sites (take n xs)) j (omega arith)

pub chosen_end : (rules form sites xs : List ℕ) (n j : ℕ) → n ≤ length xs → n ≤ j → apply rules form (drop j (packed_chosen sites (take n xs))) ≡ form
chosen_end rules form sites xs n j l h =
    let k : length (take n xs) ≡ n = length-take-le n xs l in
    let m : length (packed_chosen sites (take n xs)) ≡ length (take n xs) = length-chosen sites (take n xs) in
    apply_end rules form (packed_chosen sites (take n xs)) j (omega arith)

-- ---- how a run ends

-- where one form of all stands in old, and rest is still to come, all stand in new, or the first that fit
pub record Finished (room : ℕ) (rest : List (List ℕ)) (old new : List ℕ) (r : Listed) : Type 0 where
  pub ends : (first : List ℕ) (all : List (List ℕ)) → room ≡ room_of 66 most_forms first → Sized 66 all → Standing 66 most_forms first all rest old 1
      → (new ≡ fitted 66 most_forms first all) × (is_some r ≡ fits 66 most_forms first all) × IfSome r (λ (count : ℕ). count ≡ length all)

-- what a run has done so far, from wherever it began
abbrev pub RunSoFar : ℕ → List (List ℕ) → List ℕ → ℕ → List (List ℕ) → List ℕ → ℕ → Type 0
RunSoFar room rest₀ old count₀ rest out count =
    (first : List ℕ) (all : List (List ℕ)) → room ≡ room_of 66 most_forms first → Sized 66 all
    → Standing 66 most_forms first all rest₀ old count₀ → Standing 66 most_forms first all rest out count

pub run-done : (room : ℕ) (rest : List (List ℕ)) (old out : List ℕ) (count : ℕ) → RunSoFar room rest old 1 [] out count → Finished room rest old out (Some count)
run-done room rest old out count run = record { ends = done }
  where
    done : (first : List ℕ) (all : List (List ℕ)) → room ≡ room_of 66 most_forms first → Sized 66 all → Standing 66 most_forms first all rest old 1
        → (out ≡ fitted 66 most_forms first all) × (true ≡ fits 66 most_forms first all) × (count ≡ length all)
    done first all e s h =
        let d = standing-done 66 most_forms first all s out count (run first all e s h) in
        (d.0, sym d.1, d.2)

pub run_full : (room : ℕ) (rest : List (List ℕ)) (old out : List ℕ) (count : ℕ) (c : List ℕ) (more : List (List ℕ)) → room ≤ count → RunSoFar room rest old 1 (c ∷ more) out count
    → Finished room rest old out None
run_full room rest old out count c more l run = record { ends = full }
  where
    full : (first : List ℕ) (all : List (List ℕ)) → room ≡ room_of 66 most_forms first → Sized 66 all → Standing 66 most_forms first all rest old 1
        → (out ≡ fitted 66 most_forms first all) × (false ≡ fits 66 most_forms first all) × Unit {0}
    full first all e s h =
        let d = standing_full 66 most_forms first all s c more out count (run first all e s h) (omega arith) in
        (d.0, sym d.1, tt)
