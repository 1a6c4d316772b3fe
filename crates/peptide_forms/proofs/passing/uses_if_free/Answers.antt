-- `uses_if_free` meets its contract. The invariant: what was seen and what is left give the whole. Assumes nothing.
use Rattle.std.proofs.Common.{ℕ, ◌+◌, ◌≤◌, ◌≡◌, List, [], Bool, true, false, ◌&&◌, cond, length, drop, Some, None, refl, sym, ap, ◌∙◌, arith, add-zero, drop_of_length-le}
use Rattle.std.proofs.Math.Bool.{and-true}
use Rattle.std.specs.Bool.{then_some}
use Rattle.lists.specs.Lists.{bit}
use Rattle.peptide_forms.specs.Passing.{free, uses}
use Rattle.peptide_forms.specs.TurnLaws.{UsesTallied, uses_tallied_none, uses_tallied_more}
use Rattle.peptide_forms.proofs.passing.uses_if_free.Goals as goal

few : (b : Bool) (v : ℕ) → v ≡ bit b → v ≤ 1
few true v e = omega arith
few false v e = omega arith

seen : (sites : List ℕ) (slot rule : ℕ) (xs : List ℕ) (i : ℕ) (f : Bool) (u : ℕ) → length xs ≤ i → UsesTallied sites slot rule xs i f u → (f ≡ free sites slot xs) × (u ≡ uses sites rule xs)
unfolding free uses
seen sites slot rule xs i f u h t =
    let d : drop i xs ≡ [] = drop_of_length-le xs h in (
      sym (and-true f) ∙ ap (λ (z : List ℕ). f && free sites slot z) (sym d) ∙ t.no,
      sym (add-zero u) ∙ ap (λ (z : List ℕ). u + uses sites rule z) (sym d) ∙ t.many,
    )

answer : (b : Bool) (u : ℕ) → then_some b u ≡ cond b (Some u) None
answer true u = refl
answer false u = refl

pub loop-place-init : goal.loop-place-init
loop-place-init c = uses_tallied_none _ _ _ _

pub overflow_add-uses : goal.overflow_add-uses
overflow_add-uses c = omega (arith, c.loop-place.invariant.few, few _ _ c.from-uses.ensures)

pub loop-place-preserved : goal.loop-place-preserved
loop-place-preserved c =
    let a = c.args in
    let l = c.loop-place in
    let e = c.site_at-site.ensures in
    let v = rw e at c.from-uses.ensures in
    rw e (uses_tallied_more a.sites.now a.slot a.rule a.places.now l.place-index l.free l.uses c.from-uses.result c.loop-place-test.true v (few _ _ v) l.invariant)

pub returns : goal.returns
returns c =
    let l = c.loop-place in
    let t = seen _ _ _ _ _ _ _ c.loop-place-test.false l.invariant in
    c.then_some.ensures ∙ rw (t.0, t.1) (answer _ _)
