-- `power` meets its contract. Assumes nothing.
use native.Mathlib.Omega.{arith}
use Rattle.enzyme_words.specs.WordLaws.{power_small}
use Rattle.enzyme_words.proofs.coding.power.Goals as goal

pub pow-requires : goal.pow-requires
pow-requires c = omega (arith, power_small c.args.k c.requires)
