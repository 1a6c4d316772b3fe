-- `renew` meets its contract. Assumes nothing.
use Prim.Native.Nat.{ℕ}
use mathlib.Core.Path.{ap, ◌∙◌}
use lib.ListN.{replicate}
use Rattle.cover_edges.specs.Records.{edges_in}
use Rattle.cover_touched.proofs.mixing.renew.Goals as goal

pub returns : goal.returns
returns c =
    let a = c.args in
    let cleared = c.clear in
    let mixed = c.mix in
    let made = c.touch in
    record {
      mixed = mixed.ensures (edges_in a.old.now) (edges_in a.new.now) made.ensures;
      w_after = cleared.ensures ∙ ap (λ (n : ℕ). replicate n 0) (mixed.auto.w ∙ made.auto.w);
    }
