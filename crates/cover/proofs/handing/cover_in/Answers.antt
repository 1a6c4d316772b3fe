-- `cover_in` meets its contract. Assumes nothing.
use mathlib.Core.Path.{ap, ◌∙◌}
use Prim.Native.Nat.{ℕ}
use mathlib.Core.List.{List}
use lib.ListN.{length}
use lib.Seq.{sets}
use Rattle.cover_spec.specs.ListedLaws.{length-cover}
use Rattle.cover.specs.HandingLaws.{mid_front}
use Rattle.cover.proofs.handing.cover_in.Goals as goal

pub returns : goal.returns
returns c =
    let a = c.args in
    let made = c.cover_into in
    let m = mid_front a.groups a.all.now made.new.marks (ap length made.ensures.marks_after ∙ length-cover a.groups _) in
    record { marks_after = c.put_at.ensures ∙ ap (λ (l : List ℕ). sets a.marks.now 0 l) (m ∙ made.ensures.marks_after); work_after = made.ensures.work_after }
