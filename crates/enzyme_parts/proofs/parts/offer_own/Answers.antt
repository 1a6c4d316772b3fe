-- `offer_own` meets its contract. Assumes nothing.
use Prim.Native.Nat.{ℕ, suc, ◌-◌}
use mathlib.Core.Path.{◌≡◌, ap, ◌∙◌}
use mathlib.Core.List.{List, ◌++◌}
use Rattle.enzyme_cuts.specs.Cutting.{site}
use Rattle.enzyme_once.specs.Once.{endings, openings, own}
use Rattle.enzyme_samples.specs.Ready.{Weighted, loaded}
use Rattle.enzyme_samples.specs.ReadyLaws.{loaded_append, ready_first, offers_then}
use Rattle.enzyme_parts.specs.WalkLaws.{own-site, own_many}
use Rattle.enzyme_parts.proofs.parts.offer_own.Goals as goal

-- the parts that go to the end, and those that go from the start
abbrev Ends : ℕ → ℕ → ℕ → ℕ → ℕ → List Weighted
Ends n m a z e = loaded n (endings m e (suc a) (z - suc a))

abbrev Begins : ℕ → ℕ → ℕ → ℕ → ℕ → List Weighted
Begins n m a b e = loaded n (openings m a (suc b) (e - suc b))

both : (n m a z b e : ℕ) → (m ≡ 0 → ⊥) → loaded n (own m (site a z) (site b e)) ≡ Ends n m a z e ++ Begins n m a b e
both n m a z b e h = ap (loaded n) (own_many m (site a z) (site b e) h) ∙ loaded_append n (endings m e (suc a) (z - suc a)) (openings m a (suc b) (e - suc b))

pub offer_halves-requires : goal.offer_halves-requires
offer_halves-requires c = let a = c.args in let p = c.requires in (p.0, rw (own-site a.missed (site a.a a.z) (site a.b a.e) c.if-missed-eq0.true) at p.2)

pub offer_endings-x-requires : goal.offer_endings-x-requires
offer_endings-x-requires c = let a = c.args in let p = c.requires in (p.0, ready_first (Ends a.times a.missed a.a a.z a.e) (Begins a.times a.missed a.a a.b a.e) (rw (both a.times a.missed a.a a.z a.b a.e c.if-missed-eq0.false) at p.2))

pub offer_openings-requires : goal.offer_openings-requires
offer_openings-requires c =
    let a = c.args in
    let p = c.requires in
    (p.0, p.1, c.offer_endings-x.ensures.next (Begins a.times a.missed a.a a.b a.e) (rw (both a.times a.missed a.a a.z a.b a.e c.if-missed-eq0.false) at p.2))

pub returns : goal.returns
returns c =
    let a = c.args in
    rw (both a.times a.missed a.a a.z a.b a.e c.if-missed-eq0.false) (offers_then {xs = Ends a.times a.missed a.a a.z a.e} {ys = Begins a.times a.missed a.a a.b a.e} c.offer_endings-x.ensures c.offer_openings.ensures)
