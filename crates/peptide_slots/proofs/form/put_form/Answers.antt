-- `put_form` meets its contract. Assumes nothing.
use Rattle.std.proofs.Common.{◌≡◌, ◌+◌, ◌-◌, length, arith, rules}
use Rattle.records.specs.StoreLaws.{part_stored}
use Rattle.peptide_slots.proofs.form.put_form.Goals as goal

pub returns : goal.returns
returns c =
    let a = c.args in
    let n : length a.form.slots ≡ 66 = search rules in
    part_stored a.out.now _ a.form.slots a.from (a.from + 66 - a.from) (omega arith) c.copy_from_slice.ensures.after (omega arith)
