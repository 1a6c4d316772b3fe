-- `entry_tested` meets its contract. Assumes nothing.
use Prim.Native.Nat.{ℕ}
use mathlib.Core.Path.{◌≡◌, sym, ap, ◌∙◌}
use mathlib.Core.List.{List}
use lib.ListN.{length, take}
use lib.Seq.{length-take-le}
use lib.Dec.{ltb}
use Rattle.fasta_lines.specs.declared.runs.Run.TheVariants.{Letters}
use Rattle.fasta_lines.specs.Lines.{run_of}
use Rattle.fasta.specs.Entries.{entry_name, entry_lines, good_name, good_letters}
use Rattle.fasta.specs.EntryLaws.{lines_part, tested_12, tested_2, tested-passed}
use Rattle.fasta.proofs.reading.entry_tested.Goals.{After-has_bad, After-is_good_name, After-run_len-good}
use Rattle.fasta.proofs.reading.entry_tested.Goals as goal

-- what the calls answered, in the words of the definitions
named : (c : After-is_good_name) → c.is_good_name.result ≡ good_name (entry_name c.args.e.now)
named c = c.is_good_name.ensures ∙ ap (λ (z : ℕ). good_name (take z c.args.e.now)) c.requires.2

badly : (c : After-has_bad) → let e = c.args.e.now in c.has_bad.result ≡ ltb (good_letters e) (length (entry_lines e))
badly c = c.has_bad.ensures ∙ ap (λ (l : List ℕ). ltb (run_of Letters l) (length l)) (lines_part c.args.e.now _ c.requires.0)

ran : (c : After-run_len-good) → c.run_len-good.result ≡ good_letters c.args.e.now
ran c = c.run_len-good.ensures.0 ∙ ap (run_of Letters) (lines_part c.args.e.now _ c.requires.0)

pub slice_bounds-is_good_name-end : goal.slice_bounds-is_good_name-end
slice_bounds-is_good_name-end c = sym (length-take-le _ _ c.requires.3)

pub returns-then-has_bad : goal.returns-then-has_bad
returns-then-has_bad c = let a = c.args in tested_2 a.q a.e.now (sym (named (goal.at.returns-then-has_bad c).After-is_good_name) ∙ c.if-not-is_good_name.false) (sym (badly (goal.at.returns-then-has_bad c).After-has_bad) ∙ c.if-has_bad.true) _ _ c.requires.0 (ran (goal.at.returns-then-has_bad c).After-run_len-good)

pub returns : goal.returns
returns c = let a = c.args in tested-passed a.q a.e.now (sym (named (goal.at.returns c).After-is_good_name) ∙ c.if-not-is_good_name.false) (sym (badly (goal.at.returns c).After-has_bad) ∙ c.if-has_bad.false)

pub returns-then-not-is_good_name : goal.returns-then-not-is_good_name
returns-then-not-is_good_name c = let a = c.args in tested_12 a.q a.e.now (sym (named (goal.at.returns-then-not-is_good_name c).After-is_good_name) ∙ c.if-not-is_good_name.true)
