-- `repeat_with` meets its contract. Assumes nothing.
use Rattle.std.specs.Prelude.{ℕ, replicate}
use Rattle.std.proofs.Common.{arith}
use Rattle.std.proofs.lemmas.List.{length-replicate}
use Rattle.catalogue_repeats.specs.RepeatingLaws.{repeat_placed}
use Rattle.catalogue_repeats.proofs.repeat.repeat_with.Goals as goal

pub returns : goal.returns
returns g c =
    let names = c.args.names.now in
    let p = c.requires in
    repeat_placed names (replicate g.row.N 0) c.first_repeated.result _ p.0 (omega (arith, p.1, length-replicate {A = ℕ} g.row.N 0)) c.first_repeated.ensures
