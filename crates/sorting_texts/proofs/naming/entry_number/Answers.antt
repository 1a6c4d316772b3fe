-- `entry_number` meets its contract. Assumes nothing.
use mathlib.Core.Path.{◌≡◌, sym, ◌∙◌}
use mathlib.Core.Bool.{cond}
use Prim.Native.Nat.{◌/◌, ◌%◌}
use lib.Dec.{eqb}
use lib.ListN.{length}
use Rattle.sorting_texts.specs.Text.{tag_in}
use Rattle.sorting_texts.specs.EntryLaws.{entry-tag, entry_name}
use native.Mathlib.Omega.{arith}
use Rattle.sorting_texts.proofs.naming.entry_number.Goals as goal

pub returns-then-i-p : goal.returns-then-i-p
returns-then-i-p c =
    let p = c.tag_part-p.result in
    let e : p ≡ cond (eqb (c.args.x / 2 % 2) 1) (length (tag_in c.args.keys.now)) 0 = rw (sym c.requires.0) c.tag_part-p.ensures in
    c.number_at.ensures ∙ sym (entry-tag c.args.letters.now c.args.keys.now c.args.x p e c.args.i c.if-i-p.true)

pub returns-else-i-p : goal.returns-else-i-p
returns-else-i-p c =
    let p = c.tag_part-p.result in
    let e : p ≡ cond (eqb (c.args.x / 2 % 2) 1) (length (tag_in c.args.keys.now)) 0 = rw (sym c.requires.0) c.tag_part-p.ensures in
    c.from.ensures ∙ c.name_byte.ensures ∙ sym (entry_name c.args.letters.now c.args.keys.now c.args.x p e c.args.i (omega arith) c.requires.1)
