-- `windows_over` meets its contract: there are no more sites than letters. Assumes nothing.
use native.Mathlib.Omega.{arith}
use Rattle.enzyme_windows.specs.SiteLaws.{pieces_few}
use Rattle.enzyme_set.proofs.tables.windows_over.Goals as goal

pub sites_within-requires : goal.sites_within-requires
sites_within-requires c = let st = c.sites-m.ensures in
    (c.requires.0, c.requires.1, st, omega (arith, st.count, pieces_few c.args.knife c.args.letters.now, c.requires.0), omega arith, omega arith)
