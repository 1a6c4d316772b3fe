-- `gather` meets its contract. Assumes nothing.
use Prim.Native.Nat.{◌+◌, ◌-◌}
use native.Mathlib.Omega.{arith}
use borrow.Rule.Slice.PartMut.{put_mid}
use Rattle.cover_edges.specs.PutLaws.{Puts, puts-clear}
use Rattle.cover_levels.specs.PrepareLaws.{layout_small, layout_in, edges-gathered}
use Rattle.cover_levels.proofs.listing.gather.Goals.{After-clear}
use Rattle.cover_levels.proofs.listing.gather.Goals as goal

cleared : (c : After-clear) → let a = c.args in let e = a.areas.od + a.areas.groups in Puts (λ i. 0) 0 e a.w.now (put_mid 0 (e - 0) a.w.now c.clear.new.w)
cleared c = puts-clear 0 _ _ _ (omega arith) c.requires.fits c.clear.ensures

pub copy_field-requires : goal.copy_field-requires
copy_field-requires c = let r = c.requires in ((layout_in r (cleared (goal.at.copy_field-requires c).After-clear).size).1, r.few, omega arith)

pub overflow_add-areas : goal.overflow_add-areas
overflow_add-areas c = record { fits = (layout_small c.requires).0 }

pub returns : goal.returns
returns c = edges-gathered c.requires (cleared (goal.at.returns c).After-clear) c.copy_field.ensures c.copy_field-2.ensures
