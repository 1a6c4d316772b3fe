-- `list_windows` meets its contract: the table of starts tells the levels, and these what is listed. Assumes nothing.
use native.Mathlib.Omega.{arith}
use mathlib.Core.Path.{◌∙◌}
use Rattle.enzyme_windows.specs.Pieces.{pieces}
use Rattle.enzyme_windows.specs.SiteLaws.{pieces_few}
use Rattle.enzyme_levels.specs.FirstLaws.{pieces-placed}
use Rattle.enzyme_picks.specs.PickLaws.{sizes-offers}
use Rattle.enzyme_set.proofs.windows.list_windows.Goals as goal

pub first_level-g-requires : goal.first_level-g-requires
first_level-g-requires c =
    let k = c.args.knife in
    let l = c.args.letters.now in
    let p = c.requires in
    let st = p.2 in
    let few = pieces_few k l in
    ((pieces k l, pieces-placed k l _ _ st.count st.room st.at), omega (arith, st.count, few, p.0), p.3, p.4, p.5, p.6, p.7)

pub list_levels-requires : goal.list_levels-requires
list_levels-requires c =
    let k = c.args.knife in
    let l = c.args.letters.now in
    let p = c.requires in
    let st = p.2 in
    let f = c.first_level-g in
    (p.0, p.1, f.ensures (pieces k l) (pieces-placed k l _ _ st.count st.room st.at), omega (arith, p.3, f.auto.order), omega (arith, p.4, f.auto.other), omega (arith, p.6, f.auto.rank), omega (arith, p.7, f.auto.share))

pub returns : goal.returns
returns c =
    let st = c.requires.2 in
    c.list_levels.ensures ∙ sizes-offers c.args.knife c.args.letters.now c.args.missed _ c.args.m c.requires.0 st.count st.at c.args.terms c.args.out.now
