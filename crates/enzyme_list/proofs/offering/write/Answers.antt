-- `write` meets its contract: one law for each way out. Assumes nothing.
use native.Mathlib.Omega.{arith}
use Prim.Native.Nat.{◌-◌}
use mathlib.Core.Path.{◌≡◌, sym, ◌∙◌}
use mathlib.Core.Bool.{true}
use Rattle.enzyme_cuts.specs.Cutting.{range, within}
use Rattle.enzyme_list.specs.WriteLaws.{unlinked_other, unlinked_full, unlinked_kept}
use Rattle.enzyme_list.proofs.offering.write.Goals.{Else-not-length_within}
use Rattle.enzyme_list.proofs.offering.write.Goals as goal

-- the length fits
fits : (c : Else-not-length_within) → within c.args.terms.minimum c.args.terms.maximum (c.args.e - c.args.a) ≡ true
fits c = sym c.length_within.ensures ∙ c.if-not-length_within.false

pub returns-then-not-length_within : goal.returns-then-not-length_within
returns-then-not-length_within c = let a = c.args in
    unlinked_other a.letters.now a.terms (range a.a a.e a.missed a.semi) a.times a.count a.head a.full a.out.now c.requires.0 c.requires.4 (sym c.length_within.ensures ∙ c.if-not-length_within.true)

pub returns-then-room_for-count : goal.returns-then-room_for-count
returns-then-room_for-count c = let a = c.args in
    unlinked_full a.letters.now a.terms (range a.a a.e a.missed a.semi) a.times a.count a.head a.full a.out.now c.requires.0 c.requires.4 (fits (goal.at.returns-then-room_for-count c).Else-not-length_within) c.requires.3 (omega arith)

pub returns : goal.returns
returns c = let a = c.args in
    rw c.put_record.ensures (unlinked_kept a.letters.now a.terms (range a.a a.e a.missed a.semi) a.times a.count a.head a.full a.out.now c.requires.0 c.requires.4 (fits (goal.at.returns c).Else-not-length_within) c.requires.3 (omega arith) c.requires.1 c.requires.2)
