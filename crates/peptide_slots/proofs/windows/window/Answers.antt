-- `window` meets its contract. The invariant: the places below i are done. Assumes nothing.
use Rattle.std.proofs.Common.{ℕ, ◌∙◌, replicate, arith}
use Rattle.std.proofs.lemmas.List.{length-replicate}
use Rattle.peptide_slots.specs.OverlayLaws.{upto_none, upto_more}
use Rattle.peptide_slots.specs.WindowLaws.{window_is}
use Rattle.peptide_slots.proofs.windows.window.Invariants.{byte_at}
use Rattle.peptide_slots.proofs.windows.window.Goals as goal

pub loop-i-init : goal.loop-i-init
loop-i-init c = upto_none _ _

pub loop-i-preserved : goal.loop-i-preserved
loop-i-preserved c =
    let a = c.args in
    let l = c.loop-i in
    upto_more (byte_at a.from a.bytes.now) (replicate 64 0) l.i l.out _ (omega (arith, length-replicate {A = ℕ} 64 0)) c.byte_at.ensures l.invariant

pub returns : goal.returns
returns c =
    let a = c.args in
    let l = c.loop-i in
    window_is 64 a.from a.bytes.now l.out (l.invariant.len ∙ length-replicate {A = ℕ} 64 0) (λ j h. l.invariant.done j (omega arith))
