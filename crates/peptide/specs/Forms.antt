-- Document 01: "The first form is the unchanged peptide. Then for n = 1 to the combination limit, all n-element choices of
-- sites in lexicographic order, skipping those that .. Fixed rules then go over every form, in list order." What a call of
-- `forms` answers, and what its buffer holds then; the order of its refusals is 1, 8, 2 and 9 of the peptide, 9 of the
-- variable rules, 9 of the fixed ones, 11.
use Rattle.std.specs.Prelude.{ℕ, cond, List, [], ◌∷◌, map, length, get_or, Err}
use Rattle.lists.specs.Lists.{keep}
use Rattle.records.specs.declared.refusal.Refusal.TheVariants.{Size, Length}
use Rattle.records.specs.Outcome.{Outcome, unless_refused}
use Rattle.records.specs.Room.{counted}
use Rattle.peptide_choices.specs.Choices.{by_size}
use Rattle.peptide_forms.specs.Enumeration.{most_forms, up_to_cap}
use Rattle.peptide_listing.specs.FormTests.{too_large, not_whole, tested_lists}
use Rattle.peptide.specs.declared.making.Peptide.{Peptide}
use Rattle.records.specs.Tested.{and_then}
use Rattle.peptide.specs.Peptides.{tested_contents}
use Rattle.peptide.specs.Sites.{Site, rule_site, rule_sites, passes, filled}
use Rattle.records.specs.Answers.{Counted, Tested}

-- ---- the tests

unfoldable pub tested_forms : Peptide → List ℕ → List ℕ → ℕ → Tested
unfolding tested_contents tested_lists
tested_forms p variable fixed limit =
    cond (too_large p.len variable fixed limit) (Err Size)
    (cond (not_whole variable fixed) (Err Length)
    (and_then (tested_contents p) (tested_lists variable fixed)))

-- ---- the forms

-- the ids that a peptide has, as a form
abbrev pub bare : Peptide → List ℕ
bare p = p.nterm ∷ p.cterm ∷ p.ids

-- the sites at the chosen places
abbrev pub chosen : List Site → List ℕ → List Site
chosen sites c = map (λ (k : ℕ). get_or sites k (rule_site 0 0)) c

-- the choices that make forms, each a list of places among the sites, the empty one first
unfoldable pub choices : List Site → List ℕ → ℕ → ℕ → List (List ℕ)
unfolding up_to_cap by_size passes
choices sites rules limit cap = [] ∷ up_to_cap cap 1 (keep (λ (c : List ℕ). passes rules (chosen sites c)) (by_size (length sites) 1 limit))

-- a form: the chosen sites of the variable rules, then all sites of the fixed ones
unfoldable pub form_of : Peptide → List ℕ → List ℕ → List ℕ → List ℕ
unfolding filled rule_sites
form_of p variable fixed c = filled fixed (filled variable (bare p) (chosen (rule_sites p variable) c)) (rule_sites p fixed)

-- of at most `limit` variable sites each, at most `cap` in all
unfoldable pub forms_of : Peptide → List ℕ → List ℕ → ℕ → ℕ → List (List ℕ)
unfolding choices form_of
forms_of p variable fixed limit cap = map (form_of p variable fixed) (choices (rule_sites p variable) variable limit cap)

-- ---- the answer

-- at most 1,048,576 forms of 66 bytes; 11: no room for all, and the first that fit stand there
unfoldable pub forms_outcome : Peptide → List ℕ → List ℕ → ℕ → ℕ → List ℕ → Outcome Counted
unfolding tested_forms forms_of
forms_outcome p variable fixed limit cap old = unless_refused (tested_forms p variable fixed limit) Err (old ∷ []) (counted 66 most_forms old (forms_of p variable fixed limit cap))
