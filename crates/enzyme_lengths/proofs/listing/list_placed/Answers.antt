-- `list_placed` meets its contract: the ranges ahead, chosen, give the whole. Assumes nothing.
use native.Mathlib.Omega.{arith}
use mathlib.Core.Path.{◌≡◌, refl, sym, ◌∙◌}
use mathlib.Core.List.{List, ◌∷◌}
use Prim.Native.Nat.{◌+◌, ◌-◌}
use lib.ListN.{length}
use Rattle.enzyme_cuts.specs.Cutting.{Range, site, starting}
use Rattle.enzyme_lengths.specs.Listing.{chosen_of}
use Rattle.enzyme_lengths.specs.ListingLaws.{chosen-one-kept, chosen-one_full}
use Rattle.enzyme_lengths.specs.StartLaws.{starts-on, starting_end}
use Rattle.enzyme_lengths.specs.PositionLaws.{placed_as}
use Rattle.enzyme_lengths.proofs.listing.list_placed.Goals.{In-loop-a}
use Rattle.enzyme_lengths.proofs.listing.list_placed.Goals as goal

-- the ranges behind the first
abbrev rest : In-loop-a → List Range
rest c = starting c.args.len (c.loop-a.a + 1) (c.args.to - (c.loop-a.a + 1))

ahead : (c : In-loop-a) → chosen_of c.args.tables.now.letters.now c.args.protein (site c.loop-a.a (c.loop-a.a + c.args.len) ∷ rest c) c.loop-a.k c.loop-a.out ≡ chosen_of c.args.tables.now.letters.now c.args.protein (starting c.args.len c.args.from (c.args.to - c.args.from)) c.args.count c.args.out.now
ahead c = rw (starts-on c.args.len c.loop-a.a c.args.to (omega arith)) at c.loop-a.invariant.1

pub returns-in_err-k : goal.returns-in_err-k
returns-in_err-k c = let l = c.loop-a in
    let w = c.from in
    let t = c.times_where-times in
    let x = c.write_placed in rw c.from_residual.ensures (
      sym (chosen-one_full c.args.tables.now.letters.now c.args.protein c.args.len l.a (l.a + c.args.len) w.result (rest (goal.at.returns-in_err-k c).In-loop-a) l.k l.out x.new.out refl (omega (arith, c.loop-a-test.true, c.requires.0)) (λ h. w.ensures ∙ c.args.tables.now.measured.each l.a h) t.result t.ensures.1
          (rw (c.in_err-k.was, placed_as (length c.args.tables.now.letters.now) c.args.position c.args.protein (site l.a (l.a + c.args.len)) t.result (c.requires.3 l.a (omega arith) (omega (arith, c.loop-a-test.true)))) at x.ensures)) ∙ ahead (goal.at.returns-in_err-k c).In-loop-a,
      t.ensures.0,
    )

pub loop-a-preserved : goal.loop-a-preserved
loop-a-preserved c = let l = c.loop-a in
    let w = c.from in
    let t = c.times_where-times in
    let x = c.write_placed in (
      t.ensures.0,
      sym (chosen-one-kept c.args.tables.now.letters.now c.args.protein c.args.len l.a (l.a + c.args.len) w.result (rest (goal.at.loop-a-preserved c).In-loop-a) l.k l.out x.new.out refl (omega (arith, c.loop-a-test.true, c.requires.0)) (λ h. w.ensures ∙ c.args.tables.now.measured.each l.a h) t.result t.ensures.1
          c.in_ok-k.k (rw (c.in_ok-k.was, placed_as (length c.args.tables.now.letters.now) c.args.position c.args.protein (site l.a (l.a + c.args.len)) t.result (c.requires.3 l.a (omega arith) (omega (arith, c.loop-a-test.true)))) at x.ensures)) ∙ ahead (goal.at.loop-a-preserved c).In-loop-a,
    )

pub returns : goal.returns
returns c = let a = c.args in
    let l = c.loop-a in
    (rw (starting_end a.len l.a a.to (omega arith)) at l.invariant.1, l.invariant.0)
