-- `parse` meets its contract. Assumes nothing.
use native.Mathlib.Omega.{arith}
use mathlib.Core.Path.{refl, sym, ◌∙◌, ap}
use Rattle.std.specs.Prelude.{◌≡◌, length, get_or, Ok}
use Rattle.std.proofs.lemmas.Bool.{false≢true}
use Rattle.std.proofs.lemmas.Result.{err_from_is_err_and}
use borrow.Author.Tests.{eq-eqb, eqb-true}
use Rattle.modification_texts.specs.TextLaws.{place-small, parsed-empty, parsed-wide, parsed_long, parsed-rest}
use Rattle.modification_texts.specs.Texts.{mark_of}
use Rattle.modification_texts.proofs.text.parse.Goals as goal

pub returns-then-is_empty : goal.returns-then-is_empty
returns-then-is_empty c =
    let a = c.args in
    parsed-empty a.text.now a.alphabet (eqb-true _ _ (sym c.is_empty.ensures ∙ c.if-is_empty.true))

pub returns-then-wide-text : goal.returns-then-wide-text
returns-then-wide-text c =
    let a = c.args in
    parsed-wide a.text.now a.alphabet (λ e. omega arith) c.first_wide-wide.result c.first_wide-wide.ensures c.if-wide-text.true

pub overflow_add-at : goal.overflow_add-at
overflow_add-at c = omega (arith, place-small (mark_of (get_or c.args.text.now 0 0)), c.letter_place-at.ensures)

pub returns-then-at-text : goal.returns-then-at-text
returns-then-at-text c =
    let a = c.args in
    parsed_long a.text.now a.alphabet (λ e. omega arith) c.first_wide-wide.result c.first_wide-wide.ensures c.if-wide-text.false
    (mark_of (get_or a.text.now 0 0)) refl c.letter_place-at.result c.letter_place-at.ensures c.if-at-text.true

pub returns-in_err-letter : goal.returns-in_err-letter
returns-in_err-letter c =
    let a = c.args in
    let m = mark_of (get_or a.text.now 0 0) in
    let some : length a.text.now ≡ 0 → ⊥ = λ e. false≢true (sym c.if-is_empty.false ∙ c.is_empty.ensures ∙ eq-eqb _ _ e) in
    let p = err_from_is_err_and c.from_residual.result c.from_residual.ensures.1 in
    rw (p.1, p.2) (rw c.in_err-letter.was at (c.parse_letter.ensures m)
    ∙ parsed-rest a.text.now a.alphabet some c.first_wide-wide.result c.first_wide-wide.ensures c.if-wide-text.false
    m refl c.letter_place-at.result c.letter_place-at.ensures c.if-at-text.false)

pub returns : goal.returns
returns c =
    let a = c.args in
    let m = mark_of (get_or a.text.now 0 0) in
    let some : length a.text.now ≡ 0 → ⊥ = λ e. false≢true (sym c.if-is_empty.false ∙ c.is_empty.ensures ∙ eq-eqb _ _ e) in
    ap Ok c.marked.ensures
    ∙ rw c.in_ok-letter.was at (c.parse_letter.ensures m)
    ∙ parsed-rest a.text.now a.alphabet some c.first_wide-wide.result c.first_wide-wide.ensures c.if-wide-text.false
    m refl c.letter_place-at.result c.letter_place-at.ensures c.if-at-text.false
