-- `overlaid` meets its contract. The invariant: each slot below k is done. Assumes nothing.
use Rattle.std.proofs.Common.{◌≡◌, length, arith, rules}
use Rattle.peptide_slots.specs.Overlays.{overlay}
use Rattle.peptide_slots.specs.OverlayLaws.{map_at_ext, upto_more, upto_none}
use Rattle.peptide_slots.proofs.form.overlaid.Invariants.{merge}
use Rattle.peptide_slots.proofs.form.overlaid.Goals as goal

pub loop-k-init : goal.loop-k-init
loop-k-init c = upto_none _ _

pub loop-k-preserved : goal.loop-k-preserved
loop-k-preserved c =
    let a = c.args in
    let l = c.loop-k in
    let n : length a.form.slots ≡ 66 = search rules in
    upto_more (merge a.table.slots) a.form.slots l.k l.slots _ (omega arith) c.filled.ensures l.invariant

pub returns : goal.returns
unfolding overlay
returns c =
    let a = c.args in
    let l = c.loop-k in
    let n : length a.form.slots ≡ 66 = search rules in
    map_at_ext (merge a.table.slots) a.form.slots l.slots l.invariant.len (λ j h. l.invariant.done j (omega arith))
