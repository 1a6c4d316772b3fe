-- `cover_all` meets its contract. Assumes nothing.
use Prim.Native.Nat.{ℕ}
use mathlib.Core.Path.{ap, ◌∙◌}
use mathlib.Core.List.{List}
use lib.ListN.{length}
use lib.Seq.{sets}
use Rattle.cover_spec.specs.ListedLaws.{length-cover}
use Rattle.cover.specs.HandingLaws.{put_front}
use Rattle.cover.proofs.handing.cover_all.Goals as goal

pub returns : goal.returns
returns c =
    let a = c.args in
    let made = c.cover_into in
    record {
      marks_after = put_front a.groups a.marks.now made.new.marks (ap length made.ensures.marks_after ∙ length-cover a.groups _) c.requires.groups_in_bounds ∙ ap (λ (l : List ℕ). sets a.marks.now 0 l) made.ensures.marks_after;
      work_after = made.ensures.work_after;
    }
