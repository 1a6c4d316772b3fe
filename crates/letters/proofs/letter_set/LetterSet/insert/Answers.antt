-- `LetterSet::insert` meets its contract. Assumes nothing.
use Rattle.std.proofs.Common.{◌≡◌, ℕ, ◌+◌, ◌-◌, ◌^◌, ◌≤◌, ap, ◌∙◌, one-mul, arith, shl_exact, le-leb}
use borrow.Author.Tests.{lt-leb}
use lib.Bits.{bit_or}
use Rattle.letters.specs.declared.letter_set.LetterSet.{LetterSet}
use Rattle.letters.specs.Letters.{capital, inserted, is_capital, is_letter}
use Rattle.letters.proofs.letter_set.LetterSet.insert.Goals.{After-capital-b}
use Rattle.letters.proofs.letter_set.LetterSet.insert.Goals as goal

-- the byte as it reads
abbrev read : (c : After-capital-b) → c.capital-b.result ≡ capital c.args.letter
read c = c.capital-b.ensures

pub returns-then-b-lt65 : goal.returns-then-b-lt65
unfolding inserted is_letter is_capital
returns-then-b-lt65 c = rw (← read (goal.at.returns-then-b-lt65 c).After-capital-b, lt-leb _ _ c.if-b-lt65.true)

pub returns-then-b-gt90 : goal.returns-then-b-gt90
unfolding inserted is_letter is_capital
returns-then-b-gt90 c = rw (← read (goal.at.returns-then-b-gt90 c).After-capital-b, le-leb _ _ c.if-b-lt65.false, lt-leb _ _ c.if-b-gt90.true)

pub returns : goal.returns
unfolding inserted is_letter is_capital
returns c =
    let a = c.args in
    let b = c.capital-b.result in
    let k = b - 65 in
    let h : 1 + k ≤ 32 = omega arith in
    rw (← read (goal.at.returns c).After-capital-b, le-leb _ _ c.if-b-lt65.false, le-leb _ _ c.if-b-gt90.false)
    (ap {B = LetterSet} (λ (x : ℕ). record { mask = bit_or a.self.mask x }) (shl_exact {a = 1} 1 k 32 (omega arith) h ∙ one-mul (2 ^ k)))
