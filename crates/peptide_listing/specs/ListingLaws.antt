-- From what the listing has written to its answer. Assumes nothing.
use Rattle.std.specs.Prelude.{ℕ, ◌/◌, ◌≤◌, ◌≡◌, List, [], ◌∷◌, map, length, Err, Some, None, is_some, ok_or, IfSome}
use Rattle.std.proofs.Math.Path.{refl}
use Rattle.std.proofs.Common.{sym, ap, ◌∙◌, subst, arith, leb-true}
use Rattle.std.proofs.lemmas.List.Edits.{sets}
use Rattle.std.proofs.Math.Nat.{min-le_right}
use Rattle.lists.specs.KeepLaws.{map-all}
use Rattle.records.specs.declared.refusal.Refusal.TheVariants.{Room}
use Rattle.records.specs.Outcome.{outcome}
use Rattle.records.specs.Room.{room_of, counted, fits, fitted}
use Rattle.records.specs.RoomLaws.{Sized, Standing, standing-none, standing-more, standing_full}
use Rattle.peptide_choices.specs.Choices.{by_size}
use Rattle.peptide_slots.specs.Filling.{apply}
use Rattle.peptide_slots.specs.Overlays.{overlay}
use Rattle.peptide_forms.specs.Listed.{Listed}
use Rattle.peptide_forms.specs.Passing.{packed_passes}
use Rattle.peptide_forms.specs.Enumeration.{most_forms}
use Rattle.peptide_forms.specs.Packed.{packed_choices, packed_chosen}
use Rattle.peptide_forms.specs.RunLaws.{todo, quick, length-quick, Finished}

module _ (old form table sites rules : List ℕ) (limit cap : ℕ) (wide : length form ≡ 66) where
  abbrev made : List ℕ → List ℕ
  made = quick form table sites rules

  abbrev rest : List (List ℕ)
  rest = map made (todo (packed_passes sites rules) cap 1 (by_size (length sites) 1 limit))

  abbrev all : List (List ℕ)
  all = made [] ∷ rest

  all_sized : Sized 66 all
  all_sized = (length-quick form table sites rules [] ∙ wide, map-all (λ (r : List ℕ). length r ≡ 66) made (λ c. length-quick form table sites rules c ∙ wide) (todo (packed_passes sites rules) cap 1 (by_size (length sites) 1 limit)))

  all_is : map made (packed_choices sites rules limit cap) ≡ all
  unfolding packed_choices
  all_is = refl

  -- not even one has room
  pub list_full : room_of 66 most_forms old ≡ 0 → outcome (Err Room) (old ∷ []) ≡ counted 66 most_forms old (map made (packed_choices sites rules limit cap))
  list_full e =
      let d = standing_full 66 most_forms old all all_sized (made []) rest old 0 (standing-none 66 most_forms old all all_sized) (omega arith) in
      rw (all_is, d.1) (ap (λ (z : List ℕ). outcome (Err Room) (z ∷ [])) d.0)

  module _ (slots mid new : List ℕ) (room : ℕ) (r : Listed) (is : room ≡ room_of 66 most_forms old) (some : 1 ≤ room) (bare_is : slots ≡ overlay table form) (stored : mid ≡ sets old 0 slots) (done : Finished room rest mid new r) where
    first_is : slots ≡ made []
    unfolding quick apply packed_chosen
    first_is = bare_is

    begun : Standing 66 most_forms old all rest mid 1
    begun = subst (λ (z : List ℕ). Standing 66 most_forms old all rest z 1) (sym (stored ∙ ap (sets old 0) first_is)) (standing-more 66 most_forms old all all_sized (made []) rest old 0 (standing-none 66 most_forms old all all_sized) (omega arith))

    -- the first form stands, and the run has written what fits of the others
    pub list_done : outcome (ok_or r Room) (new ∷ []) ≡ counted 66 most_forms old (map made (packed_choices sites rules limit cap))
    list_done = rw all_is (go r (done.ends old all is all_sized begun))
      where
        go : (t : Listed) → (new ≡ fitted 66 most_forms old all) × (is_some t ≡ fits 66 most_forms old all) × IfSome t (λ (n : ℕ). n ≡ length all) → outcome (ok_or t Room) (new ∷ []) ≡ counted 66 most_forms old all
        go (Some n) d = rw (d.0, ← d.1, d.2)
        go None d = rw (d.0, ← d.1)

    -- all that are written are few
    pub list_few : IfSome r (λ (n : ℕ). n ≤ most_forms)
    list_few = go r (done.ends old all is all_sized begun)
      where
        go : (t : Listed) → (new ≡ fitted 66 most_forms old all) × (is_some t ≡ fits 66 most_forms old all) × IfSome t (λ (n : ℕ). n ≡ length all) → IfSome t (λ (n : ℕ). n ≤ most_forms)
        go (Some n) d =
            let h : length all ≤ room_of 66 most_forms old = leb-true (length all) (room_of 66 most_forms old) (sym d.1) in
            omega (arith, d.2, min-le_right (length old / 66) most_forms)
        go None d = tt
