-- `fixed_table` meets its contract: the sites read back are those collected. Assumes nothing.
use Prim.Native.Nat.{ℕ, ◌-◌}
use mathlib.Core.Path.{ap, ◌∙◌}
use native.Mathlib.Omega.{arith}
use mathlib.Core.List.{List}
use native.Mathlib.Nat.{sub-zero}
use lib.ListN.{take, replicate, length-replicate}
use Rattle.peptide_slots.specs.Filling.{apply}
use Rattle.peptide_slots.specs.SiteLaws.{all_few}
use Rattle.peptide_slots.specs.WroteLaws.{wrote_length, wrote_taken}
use Rattle.peptide_listing.proofs.listing.fixed_table.Goals as goal

pub slice_bounds-with_all-end : goal.slice_bounds-with_all-end
slice_bounds-with_all-end c =
    let a = c.args in
    let k = c.collect-m in
    omega (arith, k.ensures.next, wrote_length _ _ _ _ _ k.ensures, length-replicate {A = ℕ} 2112 0, all_few a.letters a.n a.position a.fixed.now c.requires.0 c.requires.1)

pub returns : goal.returns
returns c =
    let a = c.args in
    let k = c.collect-m in
    let new = k.new.out in
    let fixed = a.fixed.now in
    c.with_all.ensures
    ∙ ap (λ (z : List ℕ). apply fixed z (take (k.result - 0) new)) c.empty-empty.ensures
    ∙ ap (λ (z : ℕ). apply fixed (replicate 66 0) (take z new)) (sub-zero k.result)
    ∙ ap (apply fixed (replicate 66 0)) (wrote_taken _ _ _ _ (omega (arith, length-replicate {A = ℕ} 2112 0, all_few a.letters a.n a.position fixed c.requires.0 c.requires.1)) k.ensures)
