-- `marks` meets its contract: bytes are the digits of the number that they stand for. Assumes nothing.
use Rattle.std.proofs.Common.{◌≡◌, ℕ, ◌+◌, ◌*◌, ◌/◌, ◌%◌, ◌<◌, [], ◌∷◌, arith}
use Rattle.records.specs.Le.{le}
use Rattle.enzyme_keep.proofs.record.marks.Goals as goal

low : (x y : ℕ) → x < 256 → (x + 256 * y) % 256 ≡ x
low x y h = omega arith

high : (x y : ℕ) → x < 256 → (x + 256 * y) / 256 ≡ y
high x y h = omega arith

digits : (x y z : ℕ) → x < 256 → y < 256 → z < 256 → le 4 (x + 256 * (y + 256 * z)) ≡ x ∷ y ∷ z ∷ 0 ∷ []
digits x y z f g h =
    let a : z % 256 ≡ z = omega arith in
    let b : z / 256 % 256 ≡ 0 = omega arith in
    rw (low x (y + 256 * z) f, high x (y + 256 * z) f, low y z g, high y z g, a, b)

pub returns : goal.returns
returns c = let a = c.args in
    let e : c.from_le_bytes.result ≡ a.missed + 256 * (a.semi + 256 * a.place) = omega arith in
    rw e (digits a.missed a.semi a.place (omega arith) (omega arith) (omega arith))
