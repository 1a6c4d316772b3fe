-- `give` meets its contract. Assumes nothing.
use Prim.Native.Nat.{ℕ, ◌≤◌}
use mathlib.Core.Path.{◌≡◌, sym, ap, subst, ◌∙◌}
use mathlib.Core.List.{List, [], ◌∷◌}
use native.Mathlib.Omega.{arith}
use lib.ListN.{length, take}
use lib.Seq.{length-take-le, sets}
use Rattle.letters.specs.Letters.{capitals}
use Rattle.records.specs.Room.{fitted}
use Rattle.catalogue_spec.specs.Names.{padded}
use Rattle.fasta_lines.specs.declared.runs.Run.TheVariants.{Letters}
use Rattle.fasta_lines.specs.Lines.{run_of, together}
use Rattle.fasta.specs.Entries.{entry_name, entry_letters}
use Rattle.fasta.specs.EntryLaws.{lines_part, passed_name, passed-letters, given_found, given_short}
use Rattle.fasta.proofs.reading.give.Goals.{After-put_letters-count, After-put_name}
use Rattle.fasta.proofs.reading.give.Goals as goal

-- what the buffers hold, and how many letters there are, in the words of the definitions
named : (c : After-put_name) → c.put_name.new.out ≡ fitted 64 1 c.args.name.now (padded (entry_name c.args.e.now) ∷ [])
named c = c.put_name.ensures ∙ ap (λ (z : ℕ). fitted 64 1 c.args.name.now (padded (take z c.args.e.now) ∷ [])) c.requires.2

stored : (c : After-put_letters-count) → c.put_letters-count.new.out ≡ sets c.args.letters.now 0 (capitals (entry_letters c.args.e.now))
stored c = c.put_letters-count.ensures.1 ∙ ap (λ (l : List ℕ). sets c.args.letters.now 0 (capitals (together l))) (lines_part c.args.e.now _ c.requires.0)

counted : (c : After-put_letters-count) → c.put_letters-count.result ≡ length (entry_letters c.args.e.now)
counted c = c.put_letters-count.ensures.0 ∙ ap (λ (l : List ℕ). length (together l)) (lines_part c.args.e.now _ c.requires.0)

pub slice_bounds-put_name-end : goal.slice_bounds-put_name-end
slice_bounds-put_name-end c = sym (length-take-le _ _ c.requires.3)

pub put_name-requires : goal.put_name-requires
put_name-requires c = subst (λ (z : ℕ). length (take z c.args.e.now) ≤ 64) (sym c.requires.2) (passed_name c.args.q c.args.e.now c.requires.5)

pub put_letters-count-requires : goal.put_letters-count-requires
put_letters-count-requires c = subst (λ (l : List ℕ). run_of Letters l ≡ length l) (sym (lines_part c.args.e.now _ c.requires.0)) (passed-letters c.args.q c.args.e.now c.requires.5)

pub overflow_cast-letters : goal.overflow_cast-letters
overflow_cast-letters c = omega (arith, counted (goal.at.overflow_cast-letters c).After-put_letters-count, c.requires.4)

pub returns-then-named-count : goal.returns-then-named-count
returns-then-named-count c = given_found c.args.q c.args.e.now c.args.name.now c.args.letters.now (passed_name c.args.q c.args.e.now c.requires.5) c.requires.4 _ _ _ (counted (goal.at.returns-then-named-count c).After-put_letters-count) (named (goal.at.returns-then-named-count c).After-put_name) (stored (goal.at.returns-then-named-count c).After-put_letters-count) c.if-named-count.true

pub returns : goal.returns
returns c = given_short c.args.q c.args.e.now c.args.name.now c.args.letters.now (passed_name c.args.q c.args.e.now c.requires.5) c.requires.4 _ _ _ (counted (goal.at.returns c).After-put_letters-count) (named (goal.at.returns c).After-put_name) (stored (goal.at.returns c).After-put_letters-count) c.if-named-count.false
