-- `raise_all` meets its contract: the places before hold capitals, the others what they held. Assumes nothing.
use Rattle.std.proofs.Common.{◌≡◌, ℕ, ◌+◌, get_or, set, refl, ap, ◌∙◌, inr, arith, length-set}
use Rattle.lists.specs.FrameLaws.{framed_none, framed_then, framed_within, framed_set, set_more}
use Rattle.letters.specs.Letters.{capital}
use Rattle.letters.specs.CapitalLaws.{capitals_is}
use Rattle.letters.proofs.stretch.raise_all.Goals as goal

pub loop-b-init : goal.loop-b-init
loop-b-init c = (refl, λ j h. absurd (omega arith), framed_none 0 0 c.args.s.now)

pub loop-b-preserved : goal.loop-b-preserved
loop-b-preserved c =
    let s₀ = c.args.s.now in
    let l = c.loop-b in
    let i = l.b-index in
    let v = c.capital.result in
    let e : v ≡ capital (get_or s₀ i 0) = c.capital.ensures ∙ ap capital (l.invariant.2 i (inr (omega arith))) in (
      length-set l.s i v ∙ l.invariant.0,
      set_more (λ (j : ℕ). capital (get_or s₀ j 0)) l.s i v (omega arith) e l.invariant.1,
      framed_then 0 (i + 1) s₀ l.s (set l.s i v) (framed_within 0 0 i (i + 1) s₀ l.s (omega arith) (omega arith) l.invariant.2) (framed_set 0 (i + 1) i v l.s (omega arith) (omega arith)),
    )

pub returns : goal.returns
returns c =
    let l = c.loop-b in
    capitals_is c.args.s.now l.s l.invariant.0 (λ j h. l.invariant.1 j (omega (arith, l.invariant.0)))
