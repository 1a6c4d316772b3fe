-- `put_name` meets its contract. Assumes nothing.
use native.Mathlib.Omega.{arith}
use mathlib.Core.Path.{◌∙◌}
use Rattle.records.specs.RoomLaws.{stored_one, kept-one}
use Rattle.catalogue_spec.specs.Names.{padded}
use Rattle.fasta.specs.EntryLaws.{length-padded}
use Rattle.fasta.proofs.naming.put_name.Goals as goal

pub returns-then-out-ge64 : goal.returns-then-out-ge64
returns-then-out-ge64 c = let a = c.args in c.put_record.ensures ∙ stored_one 64 (padded a.text.now) a.out.now (length-padded a.text.now c.requires) (omega arith) c.if-out-ge64.true

pub returns-else-out-ge64 : goal.returns-else-out-ge64
returns-else-out-ge64 c = let a = c.args in kept-one 64 (padded a.text.now) a.out.now (length-padded a.text.now c.requires) (omega arith) c.if-out-ge64.false
