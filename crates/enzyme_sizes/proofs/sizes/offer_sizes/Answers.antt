-- `offer_sizes` meets its contract. Assumes nothing.
use Prim.Native.Nat.{suc}
use native.Mathlib.Omega.{arith}
use Rattle.enzyme_windows.specs.Pieces.{pieces}
use Rattle.enzyme_parts.specs.GoingLaws.{underway_start}
use Rattle.enzyme_sizes.specs.ToldLaws.{told_serves}
use Rattle.enzyme_sizes.specs.StepLaws.{step_ready, step_on}
use Rattle.enzyme_sizes.proofs.sizes.offer_sizes.Goals as goal

pub offer_owns-at-requires : goal.offer_owns-at-requires
offer_owns-at-requires c =
    let a = c.args in
    let p = c.requires in
    (p.0, told_serves (pieces a.knife a.source.now.letters.now) _ _ _ _ _ _ _ _ _ _ a.looked p.3 p.2, step_ready 0 (suc a.missed) p.3 {terms = a.source.now.terms} (omega arith) (underway_start p.4))

pub offer_more-requires : goal.offer_more-requires
offer_more-requires c =
    let a = c.args in
    let p = c.requires in
    (p.0, p.1, p.2, p.3, (step_on 0 (suc a.missed) p.3 {terms = a.source.now.terms} (omega arith) (underway_start p.4) a.missed (omega arith) c.offer_owns-at.ensures (omega arith) (omega arith)).ready)

pub returns : goal.returns
returns c =
    let a = c.args in
    let p = c.requires in
    (step_on 0 (suc a.missed) p.3 {terms = a.source.now.terms} (omega arith) (underway_start p.4) a.missed (omega arith) c.offer_owns-at.ensures (omega arith) (omega arith)).ahead _ _ _ c.offer_more.ensures
