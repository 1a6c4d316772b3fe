-- `tag_length` meets its contract. Assumes nothing.
use mathlib.Core.Path.{sym, ◌∙◌}
use Rattle.sorting_texts.specs.EntryLaws.{tag_short, tag-on, tag_end}
use native.Mathlib.Omega.{arith}
use Rattle.sorting_texts.proofs.naming.tag_length.Goals as goal

pub returns-then-number_at-eq0 : goal.returns-then-number_at-eq0
returns-then-number_at-eq0 c =
    let l = c.loop-i in
    tag_end c.args.keys.now l.i (omega arith) l.invariant (sym c.number_at.ensures ∙ c.if-number_at-eq0.true)

pub loop-i-preserved : goal.loop-i-preserved
loop-i-preserved c =
    let l = c.loop-i in
    omega (arith, tag-on c.args.keys.now l.i (omega arith) l.invariant (λ e. c.if-number_at-eq0.false (c.number_at.ensures ∙ e)))

pub returns : goal.returns
returns c = omega (arith, tag_short c.args.keys.now)
