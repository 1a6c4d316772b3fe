-- `with_all` meets its contract. The invariant: what is left of the sites gives the whole. Assumes nothing.
use Rattle.std.proofs.Common.{◌≡◌, drop}
use Rattle.peptide_slots.specs.Filling.{apply}
use Rattle.peptide_slots.proofs.form.with_all.Given as goal

abbrev pub invariant-loop-site : goal.invariant-loop-site
invariant-loop-site l = apply l.rules l.out.slots (drop l.site-index l.sites) ≡ apply l.rules l.initial.out.slots l.sites
