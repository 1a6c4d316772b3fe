-- `is_letter` meets its contract: of each of the 256 bytes. Assumes nothing.
use Rattle.std.proofs.Common.{◌≡◌, ℕ, ◌+◌, ◌%◌, ◌<◌, Bool, true, false, not, eqb, ltb, refl, arith, rules, eqb-true}
use lib.Bits.{bit_or}
use borrow.Author.Tests.{not-false}
use Rattle.lists.specs.Lists.{bit}
use Rattle.records.specs.Search.{seek}
use Rattle.records.specs.SearchLaws.{seek_before}
use Rattle.letters.specs.Letters.{is_capital, capital, is_letter}
use Rattle.std.proofs.Common.{rules}
use Rattle.letters.proofs.stretch.is_letter.Goals as goal

-- with bit 5 set, how far a byte lies behind a, where bytes wrap
abbrev near : ℕ → Bool
near b = ltb ((bit_or b 32 + 159) % 256) 26

abbrev differs : ℕ → Bool
differs b = not (eqb (bit (near b)) (bit (is_letter b)))

all_alike : seek differs 0 256 ≡ 256
unfolding seek is_letter is_capital capital
all_alike = refl

same_bit : (a b : Bool) → bit a ≡ bit b → a ≡ b
same_bit true true e = refl
same_bit false false e = refl
same_bit true false e = absurd (omega arith)
same_bit false true e = absurd (omega arith)

alike : (b : ℕ) → b < 256 → near b ≡ is_letter b
alike b h = same_bit (near b) (is_letter b) (eqb-true (bit (near b)) (bit (is_letter b)) (not-false _ (seek_before differs 0 256 b (omega arith) (omega (arith, all_alike)))))

pub returns : goal.returns
returns c = alike c.args.b (search (rules, c.well_formed.0))
