-- `names_tested_in` meets its contract. Assumes nothing.
use mathlib.Core.Path.{sym, ap, ap₂, ◌∙◌}
use mathlib.Core.List.{List, [], ◌∷◌}
use Prim.Native.Nat.{ℕ, ◌+◌, ◌<◌, ◌≤◌}
use lib.ListN.{length}
use Rattle.catalogue_spec.specs.Names.{name_count}
use borrow.Author.Tests.{ltb-false}
use Rattle.catalogue_names.specs.NamesInLaws.{names_in, names_short, names_many, names_parted}
use Rattle.records.specs.Outcome.{outcome}
use Rattle.catalogue_names.proofs.names.names_tested_in.Goals as goal
use Rattle.records.specs.Answers.{Tested}

pub returns-then-too_many_names : goal.returns-then-too_many_names
returns-then-too_many_names c = let a = c.args in sym (names_many a.names.now a.tab.now (sym c.too_many_names.ensures ∙ c.if-too_many_names.true))

pub contents_over-requires : goal.contents_over-requires
contents_over-requires c = (ltb-false _ _ (sym c.too_many_names.ensures ∙ c.if-too_many_names.false), (rw (← c.name_count-n.ensures) c.if-n-tab.true))

pub returns-then-n-tab : goal.returns-then-n-tab
returns-then-n-tab c =
    let a = c.args in
    let o = c.contents_over in
    let h : name_count a.names.now + name_count a.names.now ≤ length a.tab.now = rw (← c.name_count-n.ensures) c.if-n-tab.true in
    ap₂ (λ (r : Tested) (t : List ℕ). outcome r (t ∷ [])) o.ensures.0 o.ensures.1
    ∙ sym (names_in a.names.now a.tab.now (sym c.too_many_names.ensures ∙ c.if-too_many_names.false) (sym c.are_whole_names.ensures ∙ c.if-not-are_whole_names.false) h)

pub contents_tested-requires : goal.contents_tested-requires
contents_tested-requires c = ltb-false _ _ (sym c.too_many_names.ensures ∙ c.if-too_many_names.false)

pub returns-else-n-tab : goal.returns-else-n-tab
returns-else-n-tab c =
    let a = c.args in
    let h : length a.tab.now < name_count a.names.now + name_count a.names.now = rw (← c.name_count-n.ensures) c.if-n-tab.false in
    ap (λ (r : Tested). outcome r (a.tab.now ∷ [])) c.contents_tested.ensures
    ∙ sym (names_short a.names.now a.tab.now (sym c.too_many_names.ensures ∙ c.if-too_many_names.false) (sym c.are_whole_names.ensures ∙ c.if-not-are_whole_names.false) h)

pub returns-then-not-are_whole_names : goal.returns-then-not-are_whole_names
returns-then-not-are_whole_names c = let a = c.args in sym (names_parted a.names.now a.tab.now (sym c.too_many_names.ensures ∙ c.if-too_many_names.false) (sym c.are_whole_names.ensures ∙ c.if-not-are_whole_names.true))
