-- `list_lengths` meets its contract: the lengths ahead, chosen, give the whole. Assumes nothing.
use native.Mathlib.Omega.{arith}
use mathlib.Core.Path.{◌≡◌, sym, ◌∙◌}
use mathlib.Core.List.{List, ◌++◌}
use Prim.Native.Nat.{suc, ◌+◌, ◌-◌}
use lib.ListN.{length}
use Rattle.enzyme_cuts.specs.Cutting.{Range, of_length, of_lengths, none_sites}
use Rattle.enzyme_lengths.specs.ListingLaws.{lengths_on}
use Rattle.enzyme_lengths.specs.Listing.{chosen_of}
use Rattle.enzyme_lengths.specs.ListingLaws.{chosen-kept, chosen_full}
use Rattle.enzyme_lengths.specs.StartLaws.{lengths_from-one, lengths_stop}
use Rattle.enzyme_lengths.specs.TellingLaws.{told_later}
use Rattle.enzyme_lengths.proofs.listing.list_lengths.Goals.{After-wide}
use Rattle.enzyme_lengths.proofs.listing.list_lengths.Goals as goal

-- the ranges of this length, and those of the lengths behind it
abbrev these : After-wide → List Range
these c = of_length (length c.args.tables.now.letters.now) c.wide.result

abbrev rest : After-wide → List Range
rest c = of_lengths (length c.args.tables.now.letters.now) (c.loop-len.len + 1) (suc c.args.terms.maximum - (c.loop-len.len + 1))

ahead : (c : After-wide) → chosen_of c.args.tables.now.letters.now c.args.terms.protein (these c ++ rest c) c.loop-len.k c.loop-len.out ≡ chosen_of c.args.tables.now.letters.now c.args.terms.protein (none_sites (length c.args.tables.now.letters.now) c.args.terms.minimum c.args.terms.maximum) 0 c.args.out.now
ahead c = let l = c.loop-len in
    rw c.wide.ensures.0 (rw (lengths_on (length c.args.tables.now.letters.now) l.len c.args.terms.maximum (omega arith)) at l.invariant.1)

pub loop-len-init : goal.loop-len-init
loop-len-init c = let a = c.args in
    let mn = a.terms.minimum in
    let e = c.max-len.ensures in
    (told_later mn c.max-len.result a.tables.now.letters.now a.tables.now.longest.now a.tables.now.next.now a.tables.now.size.now a.head.now (omega arith) c.requires.2, rw e (lengths_from-one a.tables.now.letters.now a.terms.protein mn a.terms.maximum 0 a.out.now))

pub returns-in_err-k : goal.returns-in_err-k
returns-in_err-k c = let l = c.loop-len in
    let x = c.list_length in
    rw c.from_residual.ensures (sym (chosen_full c.args.tables.now.letters.now c.args.terms.protein (these (goal.at.returns-in_err-k c).After-wide) (rest (goal.at.returns-in_err-k c).After-wide) l.k l.out x.new.out (rw c.in_err-k.was at x.ensures.0)) ∙ ahead (goal.at.returns-in_err-k c).After-wide)

pub loop-len-preserved : goal.loop-len-preserved
loop-len-preserved c = let a = c.args in
    let l = c.loop-len in
    let w = c.wide in
    let x = c.list_length in
    let told = told_later w.result (l.len + 1) a.tables.now.letters.now a.tables.now.longest.now a.tables.now.next.now a.tables.now.size.now x.new.head (omega (arith, w.ensures.0)) x.ensures.1 in
    (told, sym (chosen-kept a.tables.now.letters.now a.terms.protein (these (goal.at.loop-len-preserved c).After-wide) (rest (goal.at.loop-len-preserved c).After-wide) l.k l.out x.new.out c.in_ok-k.k (rw c.in_ok-k.was at x.ensures.0)) ∙ ahead (goal.at.loop-len-preserved c).After-wide)

pub returns : goal.returns
returns c = let a = c.args in
    let l = c.loop-len in
    rw (lengths_stop (length a.tables.now.letters.now) l.len a.terms.maximum (omega arith)) at l.invariant.1
