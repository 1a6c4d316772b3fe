-- `fill_site` meets its contract: a slot past the form changes nothing. Assumes nothing.
use Rattle.std.proofs.Common.{◌%◌, ◌≡◌, sym, length, arith, rules}
use Rattle.std.proofs.Math.Seq.{set_out}
use Rattle.peptide_slots.proofs.form.fill_site.Goals as goal

pub returns-then-slot-lt66 : goal.returns-then-slot-lt66
returns-then-slot-lt66 c = rw (c.filled.ensures, c.byte_at-id.ensures, c.from-slot.ensures, c.from-rule.ensures)

pub returns-else-slot-lt66 : goal.returns-else-slot-lt66
returns-else-slot-lt66 c = sym (set_out c.args.form.slots (c.args.site % 128) _ (let n : length c.args.form.slots ≡ 66 = search rules in omega arith))
