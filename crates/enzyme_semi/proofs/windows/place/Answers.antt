-- `place` meets its contract. Assumes nothing.
use mathlib.Core.Path.{refl}
use native.Mathlib.Omega.{arith}
use Rattle.enzyme_semi.proofs.windows.place.Goals as goal

pub returns : goal.returns
returns c = (refl, omega (arith, c.shared_slice_known-1.given c.args.i))
