-- `touch` meets its contract. Assumes nothing.
use native.Mathlib.Omega.{arith}
use mathlib.Core.Path.{◌∙◌}
use mathlib.Core.List.{[]}
use Rattle.cover_joining.specs.Joining.{nodes}
use Rattle.cover_joining.specs.JoiningLaws.{alone_forest, alone-held}
use Rattle.cover_touched.specs.TouchingLaws.{linked_same, parts_told}
use Rattle.cover_touched.proofs.touching.touch.Goals as goal

pub join_edges-requires : goal.join_edges-requires
join_edges-requires c =
    let a = c.args in
    let made = c.set_up in
    record {
      n_bound = (c.requires.old_few, c.requires.groups-max, c.requires.metas-max, c.requires.old_inside);
      forest = alone_forest made.new.w a.metas (nodes a.groups a.metas) made.ensures.by_index (omega (arith, c.requires.room, made.auto.w));
    }

pub join_differing-requires : goal.join_differing-requires
join_differing-requires c =
    let made = c.set_up in
    let first = c.join_edges in
    let second = c.join_edges-2 in
    record {
      groups_linked = linked_same made.new.w second.new.w (second.auto.w ∙ first.auto.w) (λ i o. second.ensures.rest i o ∙ first.ensures.rest i o) made.ensures.groups_linked;
      forest = second.ensures.forest;
    }

pub returns : goal.returns
returns c =
    let a = c.args in
    let made = c.set_up in
    let first = c.join_edges.ensures in
    let second = c.join_edges-2.ensures in
    let last = c.join_differing in
    let none = alone-held made.new.w a.metas (nodes a.groups a.metas) made.ensures.by_index in
    parts_told a.old.now.bytes.now a.old.now.count a.new.now.bytes.now a.new.now.count a.groups a.metas last.new.w c.requires.old_inside c.requires.new_inside last.ensures.forest (last.ensures.held _ (second.held _ (first.held [] none)))
