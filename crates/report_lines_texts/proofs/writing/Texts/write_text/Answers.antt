-- `write_text` meets its contract: what is left of the walk is still to come. Assumes nothing.
use native.Mathlib.Omega.{arith}
use Rattle.report_lines_texts.specs.WalkLaws.{writing_start, writing_length, writing_done, writing_byte, writing_less, writing_fits, writing_on}
use Rattle.report_lines_texts.proofs.writing.Texts.write_text.Goals as goal

pub loop-step-init : goal.loop-step-init
loop-step-init c = writing_start c.args.self.now.name_bytes c.args.self.now.tag_bytes

pub walk-step-requires : goal.walk-step-requires
walk-step-requires c = record { tag = c.args.self.now.tag_length; within = c.loop-step.invariant.within }

pub overflow_add-k : goal.overflow_add-k
overflow_add-k c = omega (arith, writing_fits c.loop-step.invariant c.walk-step.ensures c.if-number-eq0.false c.requires)

pub loop-step-preserved : goal.loop-step-preserved
loop-step-preserved c = rw (c.put_byte.ensures, c.byte_of-byte.ensures) (writing_on c.loop-step.invariant c.walk-step.ensures c.if-number-eq0.false)

pub overflow_add-entry : goal.overflow_add-entry
overflow_add-entry c = omega arith

pub shape_of-out-then-number-eq0 : goal.shape_of-out-then-number-eq0
shape_of-out-then-number-eq0 c = writing_length c.loop-step.invariant

pub returns-then-number-eq0 : goal.returns-then-number-eq0
returns-then-number-eq0 c = writing_done c.loop-step.invariant c.walk-step.ensures c.if-number-eq0.true

pub byte_of-byte-requires : goal.byte_of-byte-requires
byte_of-byte-requires c = writing_byte c.loop-step.invariant c.walk-step.ensures c.if-number-eq0.false

pub loop-step-smaller : goal.loop-step-smaller
loop-step-smaller c = writing_less c.loop-step.invariant c.walk-step.ensures c.if-number-eq0.false
