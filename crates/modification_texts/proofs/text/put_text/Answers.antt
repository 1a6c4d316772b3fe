-- `put_text` meets its contract. Assumes nothing.
use native.Mathlib.Omega.{arith}
use Rattle.modification_texts.specs.TextLaws.{text_short, text_long}
use Rattle.modification_texts.proofs.text.put_text.Goals as goal

pub returns-then-out-text : goal.returns-then-out-text
returns-then-out-text c =
    let a = c.args in
    text_short a.text.now a.out.now c.put_at.new.out c.requires c.put_at.ensures (omega arith)

pub returns : goal.returns
returns c =
    let a = c.args in
    text_long a.text.now a.out.now c.put_at.new.out c.requires c.put_at.ensures (omega arith)
