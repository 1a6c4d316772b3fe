-- `place_pairs` meets its contract: the first i pairs are placed. Assumes nothing.
use Rattle.protein_groups_place.specs.Placing.{PairsLaid}
use Rattle.protein_groups_place.proofs.placing.place_pairs.Given as goal

abbrev pub invariant-loop-i : goal.invariant-loop-i
invariant-loop-i l = PairsLaid l.pairs l.flags l.a l.n l.i l.initial.w l.w
