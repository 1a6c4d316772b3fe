-- `joins` meets its contract: by what the places before take of the slot and the rule. Assumes nothing.
use Rattle.std.proofs.Common.{ℕ, ◌+◌, ◌*◌, ◌/◌, ◌%◌, ◌≡◌, List, Bool, true, false, cond, ltb, get_or, Some, None, refl}
use Rattle.records.specs.Le.{number_at}
use Rattle.peptide_forms.specs.Passing.{free, uses}
use Rattle.peptide_forms.specs.PassingLaws.{may_join}
use Rattle.peptide_forms.proofs.passing.joins.Goals as goal

some_case : (f : Bool) (u w : ℕ) → Some w ≡ cond f (Some u) None → (f ≡ true) × (w ≡ u)
some_case true u w e = (refl, cc)
some_case false u w e = absurd (cc)

none_case : (f : Bool) (u : ℕ) → None ≡ cond f (Some u) None → f ≡ false
none_case true u e = absurd (cc)
none_case false u e = refl

module _ (sites rules p : List ℕ) (k site r lim : ℕ) (e : site ≡ get_or sites k 0) (g : r ≡ site / 128) (l : lim ≡ number_at 4 rules (r * 8 + 4)) where
  joined : (w : ℕ) → Some w ≡ cond (free sites (site % 128) p) (Some (uses sites (site / 128) p)) None → ltb w lim ≡ may_join sites rules p k
  unfolding may_join
  joined w h = let t = some_case _ _ _ h in rw (← e, t.0, t.1, l, g)

  refused : None ≡ cond (free sites (site % 128) p) (Some (uses sites (site / 128) p)) None → false ≡ may_join sites rules p k
  unfolding may_join
  refused h = rw (← e, none_case _ _ h)

pub returns-in-Some : goal.returns-in-Some
returns-in-Some c = let a = c.args in joined a.sites.now a.rules.now a.before.now a.place _ _ _ c.site_at-site.ensures c.from.ensures c.u32_at-limit.ensures _ c.in-Some.ensures

pub returns-in-None : goal.returns-in-None
returns-in-None c = let a = c.args in refused a.sites.now a.rules.now a.before.now a.place _ _ _ c.site_at-site.ensures c.from.ensures c.u32_at-limit.ensures c.in-None.ensures
