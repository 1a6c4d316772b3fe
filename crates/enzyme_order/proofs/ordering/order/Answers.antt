-- `order` meets its contract: letter by letter is the order of slices. Assumes nothing.
use Rattle.std.specs.Prelude.{◌≡◌}
use Rattle.std.specs.declared.cmp.Ordering.{Ordering}
use Rattle.std.specs.declared.cmp.Ordering.TheVariants.{Less, Equal, Greater}
use Rattle.std.specs.Ordering.{MatchOrdering, ordering_then, nat_cmp}
use Rattle.std.specs.Cmp.Lexicographic.{slice_cmp}
use Rattle.std.proofs.Common.{◌∙◌, rules}
use Rattle.enzyme_order.specs.OrderLaws.{order-slices}
use Rattle.enzyme_order.proofs.ordering.order.Goals as goal

chosen : {Q : Type 0} (o r s : Ordering) → MatchOrdering o (r ≡ Less) Q (r ≡ Greater) → (Q → r ≡ s) → r ≡ ordering_then o s
chosen Less r s h g = h
chosen Equal r s h g = g h
chosen Greater r s h g = h

pub returns : goal.returns
returns c = let a = c.args in
    chosen c.cmp.result c.then_with.result (slice_cmp nat_cmp a.a.now a.b.now) c.then_with.ensures (search rules) ∙ rw c.cmp.ensures (order-slices a.a.now a.b.now)
