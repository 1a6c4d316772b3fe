-- `offer_owns` meets its contract. Assumes nothing.
use Prim.Native.Nat.{suc, ◌+◌, ◌-◌}
use Rattle.enzyme_weights.specs.Weights.{weight_in}
use Rattle.enzyme_parts.specs.Walk.{sites_in, weigh_ins}
use Rattle.enzyme_parts.specs.Weighed.{weigh_owns}
use Rattle.enzyme_parts.specs.Going.{Underway}
use Rattle.enzyme_semi.proofs.owns.offer_owns.Given as goal

abbrev pub invariant-loop-i : goal.invariant-loop-i
invariant-loop-i l =
    Underway l.source.letters.now l.source.far.now l.source.terms (weigh_owns (weight_in l.order l.runs l.rank l.share l.g (suc l.missed)) l.missed (sites_in l.starts l.m)) l.initial.at l.initial.out l.initial.marks (weigh_ins l.starts (weight_in l.order l.runs l.rank l.share l.g (suc l.missed)) l.missed l.i (l.i + l.missed) (l.m - (l.i + l.missed))) l.at l.out l.marks
