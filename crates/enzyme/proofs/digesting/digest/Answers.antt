-- `digest` meets its contract: a refusal, or the digests. Assumes nothing.
use mathlib.Core.Path.{sym, ◌∙◌}
use Rattle.enzyme_tests.specs.TestLaws.{passed-sizes}
use Rattle.enzyme.proofs.digesting.digest.Goals as goal

pub digest_passed-requires : goal.digest_passed-requires
digest_passed-requires c = let a = c.args in passed-sizes a.letters.now a.alphabet a.enzyme a.settings (sym c.tested.ensures ∙ c.in_ok-tested.was)
