-- `end_at` meets its contract. Assumes nothing.
use mathlib.Core.Path.{refl}
use mathlib.Core.Logic.{inl, inr}
use native.Mathlib.Omega.{arith}
use Rattle.enzyme_words.proofs.filling.end_at.Goals as goal

pub returns-then-n-i : goal.returns-then-n-i
returns-then-n-i c = inl refl

pub bounds-count-at : goal.bounds-count-at
bounds-count-at c = let l = c.requires.3 (omega arith) in omega arith

pub returns-then-count-at-eq1 : goal.returns-then-count-at-eq1
returns-then-count-at-eq1 c = inr (refl, omega arith, rw c.wide-at.ensures.0 at c.if-count-at-eq1.true)

pub returns-else-count-at-eq1 : goal.returns-else-count-at-eq1
returns-else-count-at-eq1 c = inl refl
