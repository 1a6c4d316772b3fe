-- `part` meets its contract. Assumes nothing.
use Prim.Native.Nat.{ℕ}
use mathlib.Core.Path.{ap, ◌∙◌}
use native.Mathlib.Omega.{arith}
use lib.ListN.{length, take, drop}
use Rattle.std.proofs.lemmas.List.{take_min, drop_min}
use Rattle.std.proofs.lemmas.Slice.{between_to_end}
use Rattle.sorting_texts.proofs.text.part.Goals as goal

pub returns : goal.returns
returns g c =
    let a = c.args in
    let all = a.items.now in
    let front = take c.min.result all in
    between_to_end front c.min-2.result (length front) (omega arith)
    ∙ ap (λ (n : ℕ). drop n front) c.min-2.ensures
    ∙ drop_min a.from front
    ∙ ap (λ (n : ℕ). drop a.from (take n all)) c.min.ensures
    ∙ ap (drop a.from) (take_min a.to all)
