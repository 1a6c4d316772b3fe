-- `first` meets its contract. Assumes nothing.
use mathlib.Core.Path.{◌∙◌}
use Prim.Native.Nat.{◌+◌}
use native.Mathlib.Omega.{arith}
use mathlib.Core.Logic.{inl}
use Rattle.cover_first.specs.FirstLaws.{first_levels}
use Rattle.cover_first.proofs.marking.first.Goals as goal

pub covered-requires : goal.covered-requires
covered-requires c = let f = c.forced in (omega (arith, c.requires.0.order_above, c.requires.0.order-fits, f.auto.w), c.requires.1, (λ y b. f.ensures.rest (c.args.areas.groups + y) (inl (omega arith)) ∙ c.requires.2 (c.args.areas.groups + y) (omega arith)), c.requires.3)

pub counts-requires : goal.counts-requires
counts-requires c = let f = c.forced in let g = c.covered in (omega (arith, c.requires.0.order_above, c.requires.0.order-fits, f.auto.w, g.auto.w), c.requires.1, (λ y b. g.ensures.rest y (inl (omega arith)) ∙ f.ensures.rest y (inl (omega arith)) ∙ c.requires.2 y (omega arith)), c.requires.3)

pub returns : goal.returns
returns c = let f = c.forced in let g = c.covered in let h = c.counts in first_levels c.args.areas c.args.edges.now.bytes.now c.args.edges.now.count c.args.w.now f.new.w g.new.w h.new.w c.requires.0 c.requires.1 f.ensures g.ensures h.ensures
