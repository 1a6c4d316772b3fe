-- `with_all` meets its contract. The invariant: what is left of the sites gives the whole. Assumes nothing.
use Rattle.std.proofs.Common.{ℕ, ◌+◌, List, drop, refl, sym, ap, ◌∙◌, arith}
use Rattle.peptide_slots.specs.FillLaws.{apply_end, apply-on}
use Rattle.peptide_slots.specs.Filling.{apply}
use Rattle.peptide_slots.proofs.form.with_all.Goals as goal

pub loop-site-init : goal.loop-site-init
loop-site-init c = refl

pub loop-site-preserved : goal.loop-site-preserved
loop-site-preserved c =
    let a = c.args in
    let l = c.loop-site in
    ap (λ (z : List ℕ). apply a.rules.now z (drop (l.site-index + 1) a.sites.now)) c.fill_site-out.ensures
    ∙ apply-on a.rules.now l.out.slots a.sites.now l.site-index (omega arith)
    ∙ l.invariant

pub returns : goal.returns
returns c =
    let a = c.args in
    let l = c.loop-site in
    sym (apply_end a.rules.now l.out.slots a.sites.now l.site-index (omega arith)) ∙ l.invariant
