-- `write_rule` meets its contract. Assumes nothing.
use mathlib.Core.Path.{sym, ◌∙◌}
use borrow.Author.Tests.{eq-eqb, ne_eqb}
use Rattle.modification_rules.specs.RuleLaws.{rule_bad, rule_full, rule-stored}
use Rattle.modification_rules.proofs.rule.write_rule.Goals.{then-not-is_sound-via-then-not-is_sound, then-not-is_sound-via-else-not-is_sound+then-rule-eq0}
use Rattle.modification_rules.proofs.rule.write_rule.Goals as goal

pub returns-then-not-is_sound : goal.returns-then-not-is_sound
returns-then-not-is_sound c =
    let a = c.args in
    let k = c.kind in
    let l = c.letter in
    elim c.then-not-is_sound.branch [
      | then-not-is_sound-via-then-not-is_sound w ↦ rule_bad a.rule a.out.now k.result l.result k.ensures l.ensures (rw (sym c.is_sound.ensures ∙ w.if-not-is_sound.true))
      | then-not-is_sound-via-else-not-is_sound+then-rule-eq0 w ↦ rule_bad a.rule a.out.now k.result l.result k.ensures l.ensures (rw (sym c.is_sound.ensures ∙ w.if-not-is_sound.false, eq-eqb a.rule.id 0 w.if-rule-eq0.true))
    ]

pub returns-then-out-lt8 : goal.returns-then-out-lt8
returns-then-out-lt8 c =
    let a = c.args in
    let k = c.kind in
    let l = c.letter in
    rule_full a.rule a.out.now k.result l.result k.ensures l.ensures (rw (sym c.is_sound.ensures ∙ c.if-not-is_sound.false, ne_eqb a.rule.id 0 c.if-rule-eq0.false)) c.if-out-lt8.true

pub returns : goal.returns
returns c =
    let a = c.args in
    let k = c.kind in
    let l = c.letter in
    let h = c.put_rule.ensures in
    rule-stored a.rule a.out.now k.result l.result k.ensures l.ensures (rw (sym c.is_sound.ensures ∙ c.if-not-is_sound.false, ne_eqb a.rule.id 0 c.if-rule-eq0.false)) c.if-out-lt8.false c.put_rule.new.out (rw (k.ensures, l.ensures) h)
