-- `ends_at` meets its contract. Assumes nothing.
use mathlib.Core.Path.{◌∙◌}
use Rattle.enzyme_sites.specs.ScanningLaws.{ends_inner}
use Rattle.enzyme_sites.proofs.scan.ends_at.Goals as goal

pub returns : goal.returns
returns c = let a = c.args in c.cuts.ensures ∙ ends_inner a.knife a.letters.now a.j c.requires
