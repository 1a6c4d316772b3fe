-- `behind` meets its contract. Assumes nothing.
use native.Mathlib.Omega.{arith}
use mathlib.Core.Path.{sym, ◌∙◌}
use Rattle.enzyme_keep.specs.Buffer.{links_in}
use Rattle.enzyme_keep.specs.BufferLaws.{link_read}
use Rattle.enzyme_list.specs.ChainLaws.{next_link}
use Rattle.enzyme_list.proofs.walk.behind.Goals as goal

pub returns : goal.returns
returns c = let a = c.args in
    c.u32_at-link.ensures ∙ sym (link_read a.count a.out.now _ (omega arith)) ∙ sym (next_link (links_in a.count a.out.now) a.head a.p c.if-p-eq0.false)
