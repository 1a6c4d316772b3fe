-- `sites` meets its contract. Assumes nothing.
use mathlib.Core.Path.{◌≡◌}
use lib.ListN.{length}
use Rattle.enzyme_sites.specs.Scanning.{Scanned}
use Rattle.enzyme_sites.proofs.scan.sites.Given as goal

abbrev pub invariant-loop-j : goal.invariant-loop-j
invariant-loop-j l = (length l.starts ≡ length l.initial.starts) × Scanned l.knife l.letters l.starts l.m l.j
