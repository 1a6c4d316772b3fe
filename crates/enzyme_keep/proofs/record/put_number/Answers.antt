-- `put_number` meets its contract. Assumes nothing.
use Rattle.std.proofs.Common.{◌≡◌, ℕ, ◌+◌, ◌-◌, ◌/◌, refl, ◌∙◌, arith}
use Rattle.std.specs.Int.{w32, to_le_bytes}
use Rattle.records.specs.Le.{le}
use Rattle.records.specs.StoreLaws.{part_stored}
use Rattle.enzyme_keep.proofs.record.put_number.Goals as goal

bytes_of : (n : ℕ) → to_le_bytes w32 n ≡ le 4 n
bytes_of n =
    let a : n / 65536 ≡ n / 256 / 256 = omega arith in
    let b : n / 16777216 ≡ n / 256 / 256 / 256 = omega arith in
    rw (a, b) refl

pub returns : goal.returns
returns c = part_stored c.args.out.now _ (le 4 c.args.n) c.args.at (c.args.at + 4 - c.args.at) (omega arith) (c.copy_from_slice.ensures.after ∙ c.to_le_bytes-bytes.ensures ∙ bytes_of c.args.n) (omega arith)
