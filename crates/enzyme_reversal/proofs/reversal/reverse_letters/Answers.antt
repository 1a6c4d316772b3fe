-- `reverse_letters` meets its contract: a refusal, or the reversed letters as capitals. Assumes nothing.
use mathlib.Core.Path.{sym, ◌∙◌}
use lib.ListN.{length-map}
use Rattle.letters.specs.Letters.{capital}
use Rattle.enzyme_reversal.specs.ReversalLaws.{stretch-passed}
use Rattle.enzyme_reversal.proofs.reversal.reverse_letters.Goals as goal

pub flip-requires : goal.flip-requires
flip-requires c =
    let s = c.args.letters.now in
    let p = stretch-passed s (sym c.stretch_tested.ensures ∙ c.in_ok-stretch_tested.was) in
    rw (c.raise_all.ensures, length-map s capital) p
