-- `is_one` meets its contract. The invariant: the places from i on ascend from low exactly if all ascend. Assumes nothing.
use Rattle.std.proofs.Common.{◌≡◌, sym, false, ◌&&◌, true≢false, length, get_or, leb, ltb, arith, rules}
use Rattle.std.proofs.lemmas.Bool.Decides.{nat_tests}
use Rattle.peptide_choices.specs.SuccessorLaws.{one_ascends, one-fits, one_of, rest-whole, rest_end, rest_stop}
use Rattle.peptide_choices.proofs.choice.Choice.is_one.Goals as goal

pub returns-then-self-gt8 : goal.returns-then-self-gt8
returns-then-self-gt8 c =
    let p = c.args.self in
    let l : length p.at ≡ 8 = search rules in
    ((λ e. absurd (true≢false (sym e))), λ e h. omega (arith, one-fits p h))

pub loop-i-init : goal.loop-i-init
loop-i-init c = let p = c.args.self in rest-whole p.n p.m p.at

pub returns-then-a-low : goal.returns-then-a-low
returns-then-a-low c =
    let p = c.args.self in
    let s = c.loop-i in
    let l : length p.at ≡ 8 = search rules in
    let t : leb s.low (get_or p.at s.i 0) && ltb (get_or p.at s.i 0) p.m ≡ false = grind (arith, nat_tests) in
    ((λ e. absurd (true≢false (sym e))), λ e h. rest_stop p.n p.m p.at (omega arith) s.low s.i s.invariant c.loop-i-test.true t (one_ascends p h))

pub returns : goal.returns
returns c =
    let p = c.args.self in
    let s = c.loop-i in
    let l : length p.at ≡ 8 = search rules in
    ((λ e. one_of p (omega arith) (rest_end p.n p.m p.at (omega arith) s.low s.i s.invariant c.loop-i-test.false)), λ e. absurd (true≢false e))
