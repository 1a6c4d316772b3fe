-- `run` meets its contract: the forms by the table are the forms. Assumes nothing.
use Prim.Native.Nat.{ℕ, ◌-◌}
use mathlib.Core.Path.{◌≡◌, ap, ◌∙◌}
use native.Mathlib.Omega.{arith}
use mathlib.Core.List.{List, map}
use native.Mathlib.Nat.{sub-zero}
use lib.ListN.{length, take, length-replicate}
use Rattle.records.specs.Room.{counted}
use Rattle.peptide_forms.specs.Enumeration.{most_forms}
use Rattle.peptide_slots.specs.Used.{used}
use Rattle.peptide_forms.specs.Packed.{packed_choices}
use Rattle.peptide_forms.specs.RunLaws.{quick}
use Rattle.peptide.specs.PackedLaws.{packed_sites}
use Rattle.peptide.specs.FormLaws.{by-table}
use Rattle.std.proofs.Common.{rules}
use Rattle.peptide.proofs.listing.run.Goals as goal

pub slice_bounds-list_all-end : goal.slice_bounds-list_all-end
slice_bounds-list_all-end c =
    let k = c.collect_used-m in
    omega (arith, k.ensures.0, k.auto.out, length-replicate {A = ℕ} 2112 0)

pub returns : goal.returns
returns c =
    let a = c.args in
    let k = c.collect_used-m in
    let read = c.raised-letters.ensures in
    let table = c.fixed_table-table in
    let sites = take (k.result - 0) k.new.out in
    let n : length a.p.ids ≡ 64 = search (rules, c.well_formed.0) in
    let e : sites ≡ used a.variable.now (packed_sites a.p a.variable.now) = ap (λ (z : ℕ). take z k.new.out) (sub-zero k.result) ∙ rw (read, c.from-n.ensures) at k.ensures.1 in
    c.list_all.ensures
    ∙ ap (λ (z : List ℕ). counted 66 most_forms a.out.now (map (quick z table.result.slots sites a.variable.now) (packed_choices sites a.variable.now a.limit a.cap))) c.bare-bare.ensures
    ∙ ap (counted 66 most_forms a.out.now) (by-table a.p a.variable.now a.fixed.now sites table.result.slots a.limit a.cap n e (rw (read, c.from-n.ensures) at table.ensures))
