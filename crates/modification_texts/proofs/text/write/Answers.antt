-- `write` meets its contract. Assumes nothing.
use Rattle.std.specs.Prelude.{◌≡◌, ℕ}
use mathlib.Core.Path.{refl, sym, ap, ◌∙◌}
use Rattle.modification_kinds.specs.declared.specificity.Specificity.{Specificity}
use Rattle.modification_kinds.specs.declared.specificity.Specificity.TheVariants.{Residue, PeptideN, PeptideC, ProteinN, ProteinC}
use Rattle.modification_kinds.specs.Specificities.{kind_of}
use Rattle.modification_texts.specs.Texts.{mark_byte}
use Rattle.modification_texts.specs.TextLaws.{write_bad, write_letter, write_mark, write_both}
use Rattle.modification_texts.proofs.text.write.Goals as goal

-- only a residue has kind 0
residue : (s : Specificity) → ((b : ℕ) → s ≡ Residue b → ⊥) → kind_of s ≡ 0 → ⊥
residue (Residue b) n e = n b refl
residue (PeptideN b) n e = cc
residue (PeptideC b) n e = cc
residue (ProteinN b) n e = cc
residue (ProteinC b) n e = cc

pub returns-then-not-is_sound : goal.returns-then-not-is_sound
returns-then-not-is_sound c =
    let a = c.args in
    let k = c.kind in
    let l = c.letter-letter in
    write_bad a.rule a.out.now k.result l.result k.ensures l.ensures (sym c.is_sound.ensures ∙ c.if-not-is_sound.true)

pub returns-in-Residue : goal.returns-in-Residue
returns-in-Residue c =
    let a = c.args in
    let k = c.kind in
    let l = c.letter-letter in
    let h = sym c.is_sound.ensures ∙ c.if-not-is_sound.false in
    c.put_text.ensures ∙ write_letter a.rule a.out.now k.result l.result k.ensures l.ensures h (k.ensures ∙ ap kind_of c.in-Residue.is)

pub returns-then-letter-eq0 : goal.returns-then-letter-eq0
returns-then-letter-eq0 c =
    let a = c.args in
    let k = c.kind in
    let l = c.letter-letter in
    let m = c.mark_byte in
    let h = sym c.is_sound.ensures ∙ c.if-not-is_sound.false in
    c.put_text-then-letter-eq0.ensures ∙ write_mark a.rule a.out.now k.result l.result k.ensures l.ensures h (λ e. residue a.rule c.in_default.not-Residue (sym k.ensures ∙ e)) m.result (m.ensures ∙ ap mark_byte (sym k.ensures)) c.if-letter-eq0.true

pub returns : goal.returns
returns c =
    let a = c.args in
    let k = c.kind in
    let l = c.letter-letter in
    let m = c.mark_byte-2 in
    let h = sym c.is_sound.ensures ∙ c.if-not-is_sound.false in
    c.put_text-2.ensures ∙ write_both a.rule a.out.now k.result l.result k.ensures l.ensures h (λ e. residue a.rule c.in_default.not-Residue (sym k.ensures ∙ e)) m.result (m.ensures ∙ ap mark_byte (sym k.ensures)) c.if-letter-eq0.false
