-- `differs_at` meets its contract. Assumes nothing.
use native.Mathlib.Omega.{arith}
use mathlib.Core.Path.{◌∙◌}
use Rattle.cover_differing.specs.DifferingLaws.{still_new, counted_few, still_old, off_few, differ_made, differ_same}
use Rattle.cover_differing.proofs.differing.differs_at.Goals as goal

pub go_along-requires : goal.go_along-requires
go_along-requires c = record {
  walkable = c.requires.groups_linked.by_old;
  g_lt_groups = (c.requires.g_lt_groups, λ m l. omega (arith, c.requires.groups_linked.clean m l));
}

pub go_along-lack-requires : goal.go_along-lack-requires
go_along-lack-requires c =
    let up = c.go_along in
    record { walkable = still_new c.requires.groups_linked up.ensures up.auto.w; g_lt_groups = (c.requires.g_lt_groups, counted_few c.requires.groups_linked up.ensures) }

pub go_along-left-requires : goal.go_along-left-requires
go_along-left-requires c =
    let up = c.go_along in
    let off = c.go_along-lack in
    record {
      walkable = still_old c.requires.groups_linked up.ensures off.ensures (off.auto.w ∙ up.auto.w);
      g_lt_groups = (c.requires.g_lt_groups, off_few c.requires.groups_linked up.ensures off.ensures);
    }

pub returns : goal.returns
returns c =
    let up = c.go_along in
    let off = c.go_along-lack in
    let last = c.go_along-left in
    record {
      value = differ_made c.requires.groups_linked up.ensures off.ensures last.ensures;
      w_unchanged = differ_same c.requires.groups_linked up.ensures off.ensures last.ensures (last.auto.w ∙ off.auto.w ∙ up.auto.w);
    }
