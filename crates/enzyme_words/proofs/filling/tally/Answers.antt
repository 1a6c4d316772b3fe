-- `tally` meets its contract. Assumes nothing.
use native.Mathlib.Omega.{arith}
use mathlib.Core.Path.{◌≡◌}
use lib.ListN.{length}
use Prim.Native.Nat.{◌+◌, ◌-◌, ◌*◌, ◌≤◌, ◌<◌}
use Rattle.enzyme_words.specs.Words.{word_at, word_code}
use Rattle.enzyme_words.specs.WordLaws.{number_small, word-number-on, number_off, code-number, code-small, words_tallied_none, words_tallied_one, words_tallied_coded, words_tallied_twice}
use Rattle.enzyme_words.proofs.filling.tally.Goals.{After-digit-in-loop-i, After-place-at, In-loop-i}
use Rattle.enzyme_words.proofs.filling.tally.Goals as goal

pub returns-then-n-q : goal.returns-then-n-q
returns-then-n-q c = (λ j h l. absurd (omega arith), λ j k h l e. absurd (omega arith))

pub loop-i-init : goal.loop-i-init
loop-i-init c = let a = c.args in
    (c.first-rest.ensures, words_tallied_none a.letters.now a.q (length a.count.now) a.far.now a.count.now)

small : (c : In-loop-i) → 26 * c.loop-i.rest + 25 < 18446744073709551616
small c = let a = c.args in let l = c.loop-i in omega (arith, number_small a.letters.now l.i (a.q - 1) (omega arith))

pub overflow_mul-word : goal.overflow_mul-word
overflow_mul-word c = omega (arith, small (goal.at.overflow_mul-word c).In-loop-i)

pub overflow_add-word : goal.overflow_add-word
overflow_add-word c = omega (arith, small (goal.at.overflow_add-word c).In-loop-i)

-- the word's place
coded : (c : After-place-at) → (c.place-at.result ≡ word_code c.args.letters.now c.loop-i.i c.args.q (length c.args.count.now)) × (c.place-at.result < length c.args.count.now)
coded c =
    let a = c.args in
    let l = c.loop-i in
    let w = word-number-on a.letters.now l.i a.q c.requires.0 (l.i + a.q - 1) l.rest c.digit.result (omega arith) l.invariant.0 c.digit.ensures in
    let k : length l.count ≡ length a.count.now = omega arith in
    let e = code-number a.letters.now l.i a.q (length a.count.now) (26 * l.rest + c.digit.result) c.place-at.result w (rw k at c.place-at.ensures) in
    (e, rw e (code-small a.letters.now l.i a.q (length a.count.now) c.requires.3))

-- without its first letter
off : (c : After-digit-in-loop-i) → (c.power-top.result * c.digit-in-loop-i.result ≤ 26 * c.loop-i.rest + c.digit.result) × (26 * c.loop-i.rest + c.digit.result - c.power-top.result * c.digit-in-loop-i.result ≡ word_at c.args.letters.now (c.loop-i.i + 1) (c.args.q - 1))
off c =
    let a = c.args in
    let l = c.loop-i in
    let w = word-number-on a.letters.now l.i a.q c.requires.0 (l.i + a.q - 1) l.rest c.digit.result (omega arith) l.invariant.0 c.digit.ensures in
    number_off a.letters.now l.i a.q c.requires.0 (26 * l.rest + c.digit.result) c.power-top.result c.digit-in-loop-i.result w c.power-top.ensures c.digit-in-loop-i.ensures

pub overflow_mul-rest : goal.overflow_mul-rest
overflow_mul-rest c = omega (arith, (off (goal.at.overflow_mul-rest c).After-digit-in-loop-i).0, small (goal.at.overflow_mul-rest c).In-loop-i)

pub overflow_sub-rest : goal.overflow_sub-rest
overflow_sub-rest c = (off (goal.at.overflow_sub-rest c).After-digit-in-loop-i).0

pub loop-i-preserved : goal.loop-i-preserved
loop-i-preserved c = let a = c.args in
    let l = c.loop-i in
    let x = c.place-at.result in (
      (off (goal.at.loop-i-preserved c).After-digit-in-loop-i).1,
      words_tallied_one a.letters.now a.q (length a.count.now) l.i l.far l.count l.invariant.1 x c.raised.result (coded (goal.at.loop-i-preserved c).After-place-at).0 c.raised.ensures (omega arith) (omega (arith, (coded (goal.at.loop-i-preserved c).After-place-at).1)),
    )

pub returns : goal.returns
returns c = let a = c.args in
    let l = c.loop-i in (
      words_tallied_coded a.letters.now a.q (length a.count.now) l.i l.far l.count l.invariant.1 (omega arith),
      words_tallied_twice a.letters.now a.q (length a.count.now) l.i l.far l.count l.invariant.1 (omega arith),
    )
