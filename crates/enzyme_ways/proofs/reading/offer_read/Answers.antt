-- `offer_read` meets its contract: letters of which none is small read as they stand. Assumes nothing.
use Rattle.std.proofs.Common.{◌≡◌, false, sym, ◌∙◌}
use Rattle.letters.specs.CapitalLaws.{capitals-same}
use Rattle.enzyme_ways.proofs.reading.offer_read.Goals as goal

pub returns : goal.returns
returns c =
    let none : c.has_small.result ≡ false = cc in
    rw (capitals-same c.args.letters.now (sym c.has_small.ensures ∙ none)) c.offer_all.ensures
