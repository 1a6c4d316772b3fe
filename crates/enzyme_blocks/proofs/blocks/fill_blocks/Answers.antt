-- `fill_blocks` meets its contract: the blocks so far have their least. Assumes nothing.
use Rattle.std.proofs.Common.{◌≡◌, ℕ, ◌+◌, ◌-◌, ◌*◌, ◌<◌, ◌≤◌, min, length, arith, ◌∙◌, refl, mul-zero, mul-le-mul_left, get_or-set_other}
use Rattle.std.specs.Int.{div_ceil}
use Rattle.std.proofs.lemmas.Grind.{div_ceil_times}
use Rattle.enzyme_blocks.specs.BlockLaws.{leasts_on, blocks_below}
use Rattle.enzyme_blocks.proofs.blocks.fill_blocks.Goals.{In-loop-b}
use Rattle.enzyme_blocks.proofs.blocks.fill_blocks.Goals as goal

-- a block starts before n
starts_below : (n w b : ℕ) → 0 < w → b < div_ceil n w → w * b < n
starts_below n w b h g =
    let u : w * (b + 1) ≤ w * div_ceil n w = mul-le-mul_left w (omega arith) in
    omega (arith, div_ceil_times n w h)

-- the table has a place for this block
room : (c : In-loop-b) → (c.args.width * c.loop-b.b < c.args.n) × (c.args.at + c.loop-b.b < length c.loop-b.least)
room c = let a = c.args in
    let s = starts_below a.n a.width c.loop-b.b (omega arith) (omega (arith, c.div_ceil-b-end.ensures)) in
    let t = blocks_below a.width c.loop-b.b a.n (length a.least.now - a.at) s c.requires.4 in
    (s, omega arith)

pub loop-b-init : goal.loop-b-init
loop-b-init c = (λ d i h k. absurd (omega (arith, mul-zero c.args.width)), λ i h. refl)

pub loop-b-preserved : goal.loop-b-preserved
loop-b-preserved c = let a = c.args in
    let l = c.loop-b in
    let x = c.least_of.result in
    let s = a.width * l.b in
    let e : a.width * (l.b + 1) ≡ s + a.width = omega arith in
    let r = room (goal.at.loop-b-preserved c).In-loop-b in
    (rw e (leasts_on a.width a.at a.n a.longest.now l.least s l.b x refl l.invariant.0 (rw c.block_end.ensures at c.least_of.ensures) r.1), λ i h. get_or-set_other l.least (a.at + l.b) i x 0 (λ z. omega arith) ∙ l.invariant.1 i h)

pub returns : goal.returns
returns c = let a = c.args in
    let l = c.loop-b in
    let e : min (a.width * l.b) a.n ≡ a.n = let f : l.b ≡ div_ceil a.n a.width = omega (arith, c.div_ceil-b-end.ensures) in
    rw f (omega (arith, div_ceil_times a.n a.width (omega arith))) in
    (rw e at l.invariant.0, l.invariant.1)
