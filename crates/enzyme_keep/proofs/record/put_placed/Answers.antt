-- `put_placed` meets its contract: five runs of stores, one behind the other. Assumes nothing.
use native.Mathlib.Omega.{arith}
use Prim.Native.Nat.{◌+◌}
use mathlib.Core.Path.{◌≡◌, ap, ◌∙◌}
use mathlib.Core.List.{[], ◌∷◌, ◌++◌}
use lib.Seq.{sets}
use Rattle.records.specs.Le.{le}
use Rattle.enzyme_keep.specs.Buffer.{placed_record}
use Rattle.enzyme_keep.specs.BufferLaws.{sets_behind}
use Rattle.enzyme_keep.proofs.record.put_placed.Goals as goal

pub returns : goal.returns
unfolding placed_record
returns c = let a = c.args in
    let out = a.out.now in
    let at = a.at in
    let start = le 4 a.a in
    let end = le 4 a.e in
    let marks = a.missed ∷ a.semi ∷ a.place ∷ 0 ∷ [] in
    let last = le 4 a.last in
    let times = le 4 a.times in
    let two = sets (sets out at start) (at + 4) end in
    let three : c.put_number-3.new.out ≡ sets two (at + 8) marks = c.put_number-3.ensures ∙ rw (c.put_number-2.ensures, c.put_number.ensures) (ap (sets two (at + 8)) c.marks.ensures) in
    c.put_number-5.ensures
    ∙ rw (c.put_number-4.ensures, three)
    (sets_behind last times (sets two (at + 8) marks) (at + 12) (at + 16) (omega arith)
    ∙ sets_behind marks (last ++ times) two (at + 8) (at + 12) (omega arith)
    ∙ sets_behind end (marks ++ (last ++ times)) (sets out at start) (at + 4) (at + 8) (omega arith)
    ∙ sets_behind start (end ++ (marks ++ (last ++ times))) out at (at + 4) (omega arith))
