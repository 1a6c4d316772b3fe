-- `with_choice` meets its contract. The invariant: what is left of the chosen sites gives the whole. Assumes nothing.
use Rattle.std.proofs.Common.{ℕ, ◌+◌, ◌-◌, ◌<◌, ◌≡◌, List, length, get_or, take, drop, get_or-take, refl, sym, ap, ◌∙◌, arith, rules, length-take-le}
use Rattle.peptide_forms.specs.Packed.{packed_chosen}
use Rattle.peptide_forms.specs.RunLaws.{chosen_end, chosen_on}
use Rattle.peptide_slots.specs.Filling.{apply}
use Rattle.peptide_forms.proofs.listing.with_choice.Goals as goal

pub loop-place-init : goal.loop-place-init
loop-place-init c = refl

pub loop-place-preserved : goal.loop-place-preserved
loop-place-preserved c =
    let a = c.args in
    let l = c.loop-place in
    let at = a.c.at in
    let n : length at ≡ 8 = search rules in
    let m = a.c.n - 0 in
    let k : length (take m at) ≡ m = length-take-le m at (omega arith) in
    let h : l.place-index < m = omega arith in
    ap (λ (z : List ℕ). apply a.rules.now z (drop (l.place-index + 1) (packed_chosen a.sites.now (take m at)))) c.fill_site-out.ensures
    ∙ chosen_on a.rules.now l.out.slots a.sites.now at m l.place-index c.site_at-site.result (omega arith) h (c.site_at-site.ensures ∙ ap (λ (z : ℕ). get_or a.sites.now z 0) (get_or-take m at l.place-index 0 h))
    ∙ l.invariant

pub returns : goal.returns
returns c =
    let a = c.args in
    let l = c.loop-place in
    let at = a.c.at in
    let n : length at ≡ 8 = search rules in
    let m = a.c.n - 0 in
    let k : length (take m at) ≡ m = length-take-le m at (omega arith) in
    let z : m ≡ a.c.n = omega arith in
    sym (chosen_end a.rules.now l.out.slots a.sites.now at m l.place-index (omega arith) (omega arith)) ∙ l.invariant ∙ ap (λ (q : ℕ). apply a.rules.now a.form.slots (packed_chosen a.sites.now (take q at))) z
