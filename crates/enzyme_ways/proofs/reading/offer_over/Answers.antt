-- `offer_over` meets its contract: the letters that are looked at are the copy. Assumes nothing.
use Prim.Native.Nat.{ℕ}
use mathlib.Core.Path.{ap, ◌∙◌}
use native.Mathlib.Nat.{sub-zero}
use lib.ListN.{length, take}
use Rattle.enzyme_ways.proofs.reading.offer_over.Goals as goal

pub returns : goal.returns
returns c =
    let n = length c.args.letters.now in
    let table = c.copy_raised.new.table in
    rw (ap (λ (k : ℕ). take k table) (sub-zero n) ∙ c.copy_raised.ensures) at c.offer_all.ensures
