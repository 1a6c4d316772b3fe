-- `read_entry` meets its contract. Assumes nothing.
use Prim.Native.Nat.{◌+◌}
use mathlib.Core.Path.{◌≡◌, ◌∙◌}
use lib.ListN.{drop}
use Rattle.fasta.specs.Entries.{opened_outcome, read_outcome}
use Rattle.fasta.specs.EntryLaws.{read_9, read_opened, opened_none, opened_14, opened_entry}
use Rattle.fasta.proofs.reading.read_entry.Goals.{After-run_len}
use Rattle.fasta.proofs.reading.read_entry.Goals as goal

-- behind the line ends reading goes on
opened : (c : After-run_len) → let a = c.args in let q = a.at + c.run_len.result in opened_outcome q (drop q a.bytes.now) a.name.now a.letters.now ≡ read_outcome a.bytes.now a.at a.name.now a.letters.now
opened c = let a = c.args in read_opened a.bytes.now a.at a.name.now a.letters.now c.if-bytes-at.false _ c.run_len.ensures.0

pub returns-then-bytes-at : goal.returns-then-bytes-at
returns-then-bytes-at c = let a = c.args in read_9 a.bytes.now a.at a.name.now a.letters.now c.if-bytes-at.true

pub returns-then-bytes-q : goal.returns-then-bytes-q
returns-then-bytes-q c = let a = c.args in opened_none a.bytes.now _ _ _ c.if-bytes-q.true ∙ opened (goal.at.returns-then-bytes-q c).After-run_len

pub returns : goal.returns
returns c =
    let a = c.args in
    c.read_behind.ensures ∙ opened_entry a.bytes.now (a.at + c.run_len.result) _ _ c.if-bytes-q.false c.if-bytes-q-ne62.false _ c.entry_len.ensures.0 ∙ opened (goal.at.returns c).After-run_len

pub returns-then-bytes-q-ne62 : goal.returns-then-bytes-q-ne62
returns-then-bytes-q-ne62 c = let a = c.args in opened_14 a.bytes.now _ _ _ c.if-bytes-q.false c.if-bytes-q-ne62.true ∙ opened (goal.at.returns-then-bytes-q-ne62 c).After-run_len
