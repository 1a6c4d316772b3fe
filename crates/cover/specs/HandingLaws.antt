-- Marks at the front of a slice that was lent. Assumes nothing.
use Rattle.std.specs.Prelude.{ℕ, ◌+◌, ◌-◌, ◌≤◌, ◌≡◌, List, length, drop}
use Rattle.std.proofs.Common.{arith, sym, take_at}
use Rattle.std.proofs.lemmas.List.Edits.{sets, sets-eq}
use borrow.Rule.Slice.PartMut.{mid_of, put_mid}

pub put_front : (g : ℕ) (xs ys : List ℕ) → length ys ≡ g → g ≤ length xs → put_mid 0 (g - 0) xs ys ≡ sets xs 0 ys
put_front g xs ys e h = let z : g - 0 ≡ 0 + length ys = omega arith in rw z (sym (sets-eq ys xs 0 (omega arith)))

pub mid_front : (g : ℕ) (xs ys : List ℕ) → length ys ≡ g → mid_of 0 (g - 0) (put_mid 0 (g - 0) xs ys) ≡ ys
mid_front g xs ys e = let z : g - 0 ≡ g = omega arith in rw z (take_at ys (drop g xs) g e)
