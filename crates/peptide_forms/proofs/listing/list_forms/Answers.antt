-- `list_forms` meets its contract. `Outer` and `Here` carry it: what stands in the buffer and what is still to come are all
-- forms. Assumes nothing.
use Rattle.std.proofs.Common.{ℕ, ◌*◌, ◌≤◌, List, length, sym, ap, ◌∙◌, subst, arith}
use Rattle.std.proofs.Math.Path.{subst₂}
use Rattle.std.proofs.lemmas.List.Edits.{sets}
use Rattle.peptide_choices.specs.LoopLaws.{left-wide}
use Rattle.peptide_choices.specs.Stepped.{Stepped}
use Rattle.peptide_choices.specs.Steps.{stepped, word}
use Rattle.peptide_forms.specs.LoopLaws.{Here, answer_cap, answer_end, answer_no_room, answer_none, here_first, less, outer_first, outer_next, skipped, took}
use Rattle.peptide_forms.specs.Passing.{packed_passes}
use Rattle.peptide_forms.specs.PassingLaws.{bad_append}
use Rattle.peptide_forms.specs.RunLaws.{quick, cap_ahead, cap_reached_lem}
use Rattle.peptide_forms.specs.TurnLaws.{reached-part, reached-sound, reached-whole}
use Rattle.peptide_forms.proofs.listing.list_forms.Goals.{then-kept-n+else-cap-count+else-room-count, else-kept-n}
use Rattle.peptide_forms.proofs.listing.list_forms.Goals as goal

pub loop-n-init : goal.loop-n-init
loop-n-init c = outer_first (omega arith)

pub loop-left-init : goal.loop-left-init
loop-left-init c =
    let o = c.loop-n in
    rw c.first-left.ensures (here_first o.invariant.low (omega arith) o.invariant.within)

pub returns-then-cap-count : goal.returns-then-cap-count
returns-then-cap-count c =
    let l = c.loop-left in
    answer_cap c.loop-n.invariant l.invariant (cap_reached_lem c.args.cap l.count (omega (arith, l.invariant.within, c.requires.2)) c.if-cap-count.true)

pub returns-then-room-count : goal.returns-then-room-count
returns-then-room-count c =
    let l = c.loop-left in
    let h = rw c.in-Some.is at l.invariant in
    let r = c.reach-kept.ensures in
    answer_no_room c.loop-n.invariant h (reached-sound r) (reached-whole r (c.if-kept-n.true ∙ sym (left-wide h.left))) (cap_ahead c.args.cap l.count c.if-cap-count.false) c.if-room-count.true

pub loop-left-smaller : goal.loop-left-smaller
loop-left-smaller c =
    let h = rw c.in-Some.is at c.loop-left.invariant in
    rw (c.next_past-left.ensures, c.in-Some.is) (less h (reached-sound c.reach-kept.ensures))

pub loop-left-preserved : goal.loop-left-preserved
loop-left-preserved c =
    let a = c.args in
    let o = c.loop-n in
    let l = c.loop-left in
    let r = c.reach-kept in
    let h = rw c.in-Some.is at l.invariant in
    let H : List ℕ → ℕ → Stepped → Type 0 = Here (packed_passes a.sites.now a.rules.now) (quick a.bare.slots a.table.slots a.sites.now a.rules.now) (length a.sites.now) a.limit a.cap o.n a.room o.count o.out in
    subst (λ (t : Stepped). H c.if-kept-n.out c.if-kept-n.count t) (sym c.next_past-left.ensures)
    (elim c.if-kept-n.branch [
      | then-kept-n+else-cap-count+else-room-count w ↦ subst₂ (λ (z : List ℕ) (k : ℕ). H z k (stepped c.in-Some.c r.result)) (sym w.out-is) (sym w.count-is)
          (took h (reached-sound r.ensures) w.put_form.new.out (reached-whole r.ensures (w.if-kept-n.true ∙ sym (left-wide h.left)))
          (cap_ahead a.cap l.count w.if-cap-count.false) w.if-room-count.false w.put_form.auto.out
          (w.put_form.ensures ∙ ap (sets l.out (66 * l.count)) w.made-form.ensures))
      | else-kept-n w ↦ subst₂ (λ (z : List ℕ) (k : ℕ). H z k (stepped c.in-Some.c r.result)) (sym w.out-is) (sym w.count-is)
          (skipped h (reached-sound r.ensures)
          (reached-part r.ensures (let i : r.result ≤ length (word c.in-Some.c) = r.ensures.within in let wide = left-wide h.left in omega (arith, w.if-kept-n.false))))
    ])

pub loop-n-preserved : goal.loop-n-preserved
loop-n-preserved c = outer_next c.loop-n.invariant (rw c.in_default.is at c.loop-left.invariant)

pub returns-then-count-had : goal.returns-then-count-had
returns-then-count-had c = answer_none c.loop-n.invariant (rw c.in_default.is at c.loop-left.invariant) (bad_append c.args.sites.now c.args.rules.now) c.if-count-had.true

pub returns-else-count-had : goal.returns-else-count-had
returns-else-count-had c = answer_end (omega arith) (outer_next c.loop-n.invariant (rw c.in_default.is at c.loop-left.invariant))

pub returns : goal.returns
returns c = answer_end (omega arith) c.loop-n.invariant
