-- What the tests of forms come to, from what was written to the answer, and the laws that document 01 asks of the forms.
-- Assumes nothing.
use Rattle.std.specs.Prelude.{ℕ, ◌%◌, ◌≤◌, ◌≡◌, refl, Bool, true, false, cond, ◌&&◌, List, [], ◌∷◌, map, length, get_or, replicate, eqb, Err}
use Rattle.std.proofs.Common.{sym, ◌∙◌, arith, eqb-true}
use Rattle.std.proofs.Math.Path.{ap}
use Rattle.std.proofs.lemmas.Simd.{map-map}
use Rattle.std.proofs.lemmas.Bool.{not-false}
use Rattle.lists.specs.InLaws.{map-alike}
use Rattle.peptide_listing.specs.FormTests.{too_large, not_whole, tested_lists}
use Rattle.lists.specs.Tests.{both}
use Rattle.lists.specs.Lists.{keep}
use Rattle.records.specs.declared.refusal.Refusal.{Refusal}
use Rattle.records.specs.declared.refusal.Refusal.TheVariants.{Size, Length}
use Rattle.records.specs.Outcome.{outcome, only}
use Rattle.records.specs.Room.{counted}
use Rattle.modification_rules.specs.Rules.{rule_at}
use Rattle.peptide_choices.specs.Choices.{by_size}
use Rattle.peptide_choices.specs.ListingLaws.{Complete, listing_complete}
use Rattle.peptide_slots.specs.Hits.{fill_at}
use Rattle.peptide_slots.specs.Filling.{apply}
use Rattle.peptide_slots.specs.Used.{used}
use Rattle.peptide_slots.specs.FillLaws.{length-apply, fill-at_keeps}
use Rattle.peptide_slots.specs.Overlays.{overlay}
use Rattle.peptide_slots.specs.OverlayLaws.{fixed_by-table}
use Rattle.peptide_forms.specs.Enumeration.{most_forms, no_cap}
use Rattle.peptide_forms.specs.Packed.{packed_choices, packed_chosen, packed_form}
use Rattle.peptide_forms.specs.CapLaws.{accepted-all}
use Rattle.peptide_forms.specs.UsedLaws.{choices-used}
use Rattle.peptide_forms.specs.RunLaws.{quick}
use Rattle.peptide_listing.specs.FormTestLaws.{sizes_fit}
use Rattle.peptide.specs.declared.making.Peptide.{Peptide}
use Rattle.records.specs.Tested.{and_then}
use Rattle.records.specs.TestedLaws.{passed-both, passed_first}
use Rattle.peptide.specs.Peptides.{tested_contents}
use Rattle.peptide.specs.Sites.{Site, rule_sites, passes, filled}
use Rattle.peptide.specs.Forms.{tested_forms, bare, chosen, choices, form_of, forms_outcome}
use Rattle.peptide.specs.PackedLaws.{packed_sites, packed_forms, forms_packed}
use Rattle.records.specs.Answers.{Counted, Passed, Tested}

-- ---- all tests

module _ (p : Peptide) (variable fixed : List ℕ) (limit : ℕ) where
  pub forms_tested_large : too_large p.len variable fixed limit ≡ true → Err Size ≡ tested_forms p variable fixed limit
  unfolding tested_forms
  forms_tested_large e = rw e

  module _ (sized : too_large p.len variable fixed limit ≡ false) where
    pub forms_tested-whole : not_whole variable fixed ≡ true → Err Length ≡ tested_forms p variable fixed limit
    unfolding tested_forms
    forms_tested-whole e = rw (sized, e)

    module _ (whole : not_whole variable fixed ≡ false) where
      pub forms_tested-contents : (why : Refusal) → Err why ≡ tested_contents p → Err why ≡ tested_forms p variable fixed limit
      unfolding tested_forms
      forms_tested-contents why e = rw (sized, whole, ← e)

      pub forms_tested-lists : (r : Tested) → Passed ≡ tested_contents p → r ≡ tested_lists variable fixed → r ≡ tested_forms p variable fixed limit
      unfolding tested_forms
      forms_tested-lists r e f = rw (sized, whole, ← e) f

  -- what is known once they passed
  passed_apart : tested_forms p variable fixed limit ≡ Passed → (too_large p.len variable fixed limit ≡ false) × (not_whole variable fixed ≡ false) × (tested_lists variable fixed ≡ Passed)
  unfolding tested_forms
  passed_apart h =
      let contents : Tested = and_then (tested_contents p) (tested_lists variable fixed) in
      let a = passed_first (too_large p.len variable fixed limit) Size (cond (not_whole variable fixed) (Err Length) contents) h in
      let b = passed_first (not_whole variable fixed) Length contents a.1 in
      (a.0, b.0, (passed-both (tested_contents p) (tested_lists variable fixed) b.1).1)

  pub passed_fit : tested_forms p variable fixed limit ≡ Passed → (p.len ≤ 64) × (length variable ≤ 256) × (length fixed ≤ 256) × (limit ≤ 8)
  passed_fit h =
      let a = passed_apart h in
      let w = both (eqb (length variable % 8) 0) (eqb (length fixed % 8) 0) (not-false (eqb (length variable % 8) 0 && eqb (length fixed % 8) 0) a.1) in
      let m : length fixed % 8 ≡ 0 = eqb-true (length fixed % 8) 0 w.1 in
      let f = sizes_fit p.len variable fixed limit a.0 in
      (f.0, omega (arith, f.1), omega (arith, f.2), f.3)

  module _ (cap : ℕ) (old : List ℕ) where
    pub forms_refused : (why : Refusal) → Err why ≡ tested_forms p variable fixed limit → outcome (Err why) (old ∷ []) ≡ forms_outcome p variable fixed limit cap old
    unfolding forms_outcome
    forms_refused why e = rw (← e)

    pub forms_passed : Passed ≡ tested_forms p variable fixed limit → counted 66 most_forms old (packed_forms p variable fixed limit cap) ≡ forms_outcome p variable fixed limit cap old
    unfolding forms_outcome
    forms_passed e = ap (counted 66 most_forms old) (sym (forms_packed p variable fixed limit cap (passed_fit (sym e)).0 (passed_apart (sym e)).2)) ∙ rw (← e)

    -- no second answer and no second contents fit
    pub forms_only : (a b : Counted) (k l : List (List ℕ)) → outcome a k ≡ forms_outcome p variable fixed limit cap old → outcome b l ≡ forms_outcome p variable fixed limit cap old → (a ≡ b) × (k ≡ l)
    forms_only a b k l = only a b k l (forms_outcome p variable fixed limit cap old)

-- ---- a form by the table is the form

-- it goes by the sites of the rules that may be used: those of the others are in no choice that passes
pub by-table : (p : Peptide) (variable fixed sites table : List ℕ) (limit cap : ℕ) → length p.ids ≡ 64 → sites ≡ used variable (packed_sites p variable) → table ≡ apply fixed (replicate 66 0) (packed_sites p fixed)
    → map (quick (bare p) table sites variable) (packed_choices sites variable limit cap) ≡ packed_forms p variable fixed limit cap
unfolding packed_forms quick packed_form
by-table p variable fixed sites table limit cap l e t =
    map-alike (quick (bare p) table sites variable) (λ (c : List ℕ). on (packed_chosen sites c)) (packed_choices sites variable limit cap) (λ c i. same c)
    ∙ sym (map-map on (packed_chosen sites) (packed_choices sites variable limit cap))
    ∙ ap (λ (s : List ℕ). map on (map (packed_chosen s) (packed_choices s variable limit cap))) e
    ∙ ap (map on) (sym (choices-used (packed_sites p variable) variable limit cap))
    ∙ map-map on (packed_chosen (packed_sites p variable)) (packed_choices (packed_sites p variable) variable limit cap)
  where
    -- the form of some sites
    on : List ℕ → List ℕ
    on xs = apply fixed (apply variable (bare p) xs) (packed_sites p fixed)

    same : (c : List ℕ) → quick (bare p) table sites variable c ≡ on (packed_chosen sites c)
    same c =
        let n : length (bare p) ≡ 66 = omega arith in
        let k : length (apply variable (bare p) (packed_chosen sites c)) ≡ 66 = length-apply variable (bare p) (packed_chosen sites c) ∙ n in
        ap (λ (z : List ℕ). overlay z (apply variable (bare p) (packed_chosen sites c))) t
        ∙ sym (fixed_by-table fixed (apply variable (bare p) (packed_chosen sites c)) (packed_sites p fixed) k)

-- ---- the laws

-- no run of sites, of fixed rules or of variable ones, changes a slot that is filled
filled-stays : (rules form : List ℕ) (sites : List Site) (k : ℕ) → (get_or form k 0 ≡ 0 → ⊥) → get_or (filled rules form sites) k 0 ≡ get_or form k 0
unfolding filled
filled-stays rules form [] k h = refl
filled-stays rules form (s ∷ ss) k h =
    let next : List ℕ = fill_at form s.slot (rule_at rules s.rule).id in
    let e : get_or next k 0 ≡ get_or form k 0 = fill-at_keeps form s.slot (rule_at rules s.rule).id k h in
    filled-stays rules next ss k (λ (z : get_or next k 0 ≡ 0). h (sym e ∙ z)) ∙ e

-- a fixed rule never changes a slot that a variable one, or the peptide itself, has filled
pub fixed_never_overwrites : (p : Peptide) (variable fixed c : List ℕ) (k : ℕ) → (get_or (filled variable (bare p) (chosen (rule_sites p variable) c)) k 0 ≡ 0 → ⊥)
    → get_or (form_of p variable fixed c) k 0 ≡ get_or (filled variable (bare p) (chosen (rule_sites p variable) c)) k 0
unfolding form_of
fixed_never_overwrites p variable fixed c k h = filled-stays fixed (filled variable (bare p) (chosen (rule_sites p variable) c)) (rule_sites p fixed) k h

-- without a cap the forms are those of the empty choice and of all choices that pass, in order, each once
pub forms_complete : (p : Peptide) (variable : List ℕ) (limit : ℕ)
    → (list : List (List ℕ)) × (choices (rule_sites p variable) variable limit no_cap ≡ [] ∷ list) × Complete (λ (c : List ℕ). passes variable (chosen (rule_sites p variable) c)) (length (rule_sites p variable)) limit list
unfolding choices
forms_complete p variable limit =
    let sites : List Site = rule_sites p variable in
    let ok : List ℕ → Bool = λ (c : List ℕ). passes variable (chosen sites c) in
    let list : List (List ℕ) = keep ok (by_size (length sites) 1 limit) in
    (list, ap (λ (z : List (List ℕ)). [] ∷ z) (accepted-all 1 (keep ok (by_size (length sites) 1 limit))), listing_complete ok (length sites) limit)
