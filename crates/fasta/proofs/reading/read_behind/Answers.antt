-- `read_behind` meets its contract. Assumes nothing.
use Rattle.std.proofs.Common.{Err}
use Prim.Native.Nat.{ℕ}
use mathlib.Core.Path.{◌≡◌, sym, ap, ◌∙◌}
use mathlib.Core.List.{List}
use lib.ListN.{length}
use lib.Dec.{ltb}
use borrow.Author.Tests.{ltb-false}
use Rattle.fasta_lines.specs.Lines.{together}
use Rattle.fasta.specs.Entries.{too_long, entry_tested}
use Rattle.fasta.specs.EntryLaws.{lines_part, entry_1, entry-refused, entry_given}
use Rattle.std.proofs.lemmas.Result.{err_from_is_err_and}
use Rattle.fasta.proofs.reading.read_behind.Goals.{After-is_too_long}
use Rattle.fasta.proofs.reading.read_behind.Goals as goal
use Rattle.records.specs.Answers.{Passed}

long : (c : After-is_too_long) → c.is_too_long.result ≡ too_long c.args.e.now
long c = c.is_too_long.ensures ∙ ap (λ (l : List ℕ). ltb 65536 (length (together l))) (lines_part c.args.e.now _ c.run_len-head.ensures.0)

pub returns-then-is_too_long : goal.returns-then-is_too_long
returns-then-is_too_long c = let a = c.args in entry_1 a.q a.e.now a.name.now a.letters.now (sym (long (goal.at.returns-then-is_too_long c).After-is_too_long) ∙ c.if-is_too_long.true)

pub give-requires : goal.give-requires
give-requires c =
    let e : entry_tested c.args.q c.args.e.now ≡ Passed = sym c.entry_tested.ensures ∙ c.in_ok-entry_tested.was in
    (c.run_len-head.ensures.0, c.run_len-head.ensures.1, c.run_len-word.ensures.0, c.run_len-word.ensures.1, ltb-false _ _ (sym (long (goal.at.give-requires c).After-is_too_long) ∙ c.if-is_too_long.false), e, c.requires)

pub returns : goal.returns
returns c =
    let a = c.args in
    let e : entry_tested a.q a.e.now ≡ Passed = sym c.entry_tested.ensures ∙ c.in_ok-entry_tested.was in
    c.give.ensures ∙ entry_given a.q a.e.now a.name.now a.letters.now (sym (long (goal.at.returns c).After-is_too_long) ∙ c.if-is_too_long.false) e

pub returns-in_err-entry_tested : goal.returns-in_err-entry_tested
returns-in_err-entry_tested c =
    let a = c.args in
    let e : entry_tested a.q a.e.now ≡ Err c.in_err-entry_tested.field-0.0 = sym c.entry_tested.ensures ∙ c.in_err-entry_tested.was in
    let p = err_from_is_err_and c.from_residual.result c.from_residual.ensures.1 in
    rw (p.1, p.2) (entry-refused a.q a.e.now a.name.now a.letters.now (sym (long (goal.at.returns-in_err-entry_tested c).After-is_too_long) ∙ c.if-is_too_long.false) _ e)
