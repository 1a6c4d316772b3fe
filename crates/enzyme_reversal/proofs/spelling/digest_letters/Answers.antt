-- `digest_letters` meets its contract: a refusal, or the letters. Assumes nothing.
use native.Mathlib.Omega.{arith}
use mathlib.Core.Path.{sym, ◌∙◌}
use Prim.Native.Nat.{◌-◌, ◌≤◌}
use native.Mathlib.Nat.{min-le_left}
use lib.ListN.{length, drop, length-take}
use Rattle.enzyme_reversal.specs.SpellingLaws.{spelling_passed}
use Rattle.enzyme_reversal.proofs.spelling.digest_letters.Goals.{After-byte_at-decoy}
use Rattle.enzyme_reversal.proofs.spelling.digest_letters.Goals as goal

-- the range that was read lies within the letters
range : (c : After-byte_at-decoy) → (c.u32_at-start.result ≤ c.u32_at-end.result) × (c.u32_at-end.result ≤ length c.args.letters.now)
range c =
    let p = spelling_passed c.args.letters.now c.args.bytes.now (sym c.spelling_tested.ensures ∙ c.in_ok-spelling_tested.was) in
    rw (c.u32_at-start.ensures, c.u32_at-end.ensures) (p.1, p.2)

pub slice_bounds-spell-count : goal.slice_bounds-spell-count
slice_bounds-spell-count c = (range (goal.at.slice_bounds-spell-count c).After-byte_at-decoy).0

pub slice_bounds-spell-start : goal.slice_bounds-spell-start
slice_bounds-spell-start c = (range (goal.at.slice_bounds-spell-start c).After-byte_at-decoy).0

pub slice_bounds-spell-end : goal.slice_bounds-spell-end
slice_bounds-spell-end c = (range (goal.at.slice_bounds-spell-end c).After-byte_at-decoy).1

pub spell-requires : goal.spell-requires
spell-requires c = let s = spelling_passed c.args.letters.now c.args.bytes.now (sym c.spelling_tested.ensures ∙ c.in_ok-spelling_tested.was) in
    let r = range (goal.at.spell-requires c).After-byte_at-decoy in
    omega (arith, s.0, length-take (c.u32_at-end.result - c.u32_at-start.result) (drop c.u32_at-start.result c.args.letters.now), min-le_left (c.u32_at-end.result - c.u32_at-start.result) (length (drop c.u32_at-start.result c.args.letters.now)), r.0, r.1)

pub returns : goal.returns
returns c = rw (sym c.spelling_tested.ensures ∙ c.in_ok-spelling_tested.was) (rw (c.u32_at-start.ensures, c.u32_at-end.ensures, c.byte_at-decoy.ensures) at c.spell.ensures)
