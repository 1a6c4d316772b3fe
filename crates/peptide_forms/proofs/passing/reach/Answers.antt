-- `reach` meets its contract. The invariant: the first j places pass. Assumes nothing.
use Rattle.std.proofs.Common.{◌-◌, ◌≡◌, sym, ◌∙◌, length, arith, rules}
use Rattle.peptide_forms.specs.TurnLaws.{passes-to_end, passes-to-more, passes-to-none, passes-to_stop}
use Rattle.peptide_forms.proofs.passing.reach.Goals as goal

pub loop-j-init : goal.loop-j-init
loop-j-init c = passes-to-none c.args.sites.now c.args.rules.now c.args.c.at

pub loop-j-preserved : goal.loop-j-preserved
loop-j-preserved c =
    let a = c.args in
    let l = c.loop-j in
    let n : length a.c.at ≡ 8 = search rules in
    let z : l.j - 0 ≡ l.j = omega arith in
    passes-to-more a.sites.now a.rules.now a.c.at a.c.n l.j (omega arith) c.loop-j-test.true l.invariant (sym (rw z at c.joins.ensures) ∙ c.if-not-joins.false)

pub returns-then-not-joins : goal.returns-then-not-joins
returns-then-not-joins c =
    let a = c.args in
    let l = c.loop-j in
    let n : length a.c.at ≡ 8 = search rules in
    let z : l.j - 0 ≡ l.j = omega arith in
    passes-to_stop a.sites.now a.rules.now a.c.at a.c.n l.j (omega arith) c.loop-j-test.true l.invariant (sym (rw z at c.joins.ensures) ∙ c.if-not-joins.true)

pub returns : goal.returns
returns c =
    let a = c.args in
    let l = c.loop-j in
    let n : length a.c.at ≡ 8 = search rules in
    passes-to_end a.sites.now a.rules.now a.c.at a.c.n l.j (omega arith) (omega arith) (omega arith) l.invariant
