-- `first_level` meets its contract. Assumes nothing.
use native.Mathlib.Omega.{arith}
use Rattle.enzyme_levels.specs.ReadyLaws.{ready_sifted}
use Rattle.enzyme_levels.specs.FirstLaws.{placed-site, level_one}
use Rattle.enzyme_levels.proofs.windows.first_level.Goals as goal

pub sifted_sites-g-requires : goal.sifted_sites-g-requires
sifted_sites-g-requires c = let a = c.args in
    let p = c.requires in
    (p.1, p.4, p.5, p.2, p.3, p.6, λ z h. placed-site p.0.0 a.letters.now a.starts.now a.m p.0.1 z h)

pub first_names-requires : goal.first_names-requires
first_names-requires c = let a = c.args in
    let p = c.requires in
    let s = c.sifted_sites-g in
    (ready_sifted a.letters.now a.starts.now s.new.order a.m s.result p.1 (placed-site p.0.0 a.letters.now a.starts.now a.m p.0.1) s.ensures.0, omega (arith, s.auto.rank, p.5), omega (arith, s.auto.order, p.2), omega (arith, s.auto.other, p.3), omega (arith, s.auto.share, p.6), omega (arith, s.auto.name, p.4))

pub returns : goal.returns
returns c = let a = c.args in
    let p = c.requires in
    let s = c.sifted_sites-g in
    let t = c.first_names in
    λ ts pl. level_one ts a.letters.now a.starts.now a.m pl s.new.order t.new.order t.new.other s.new.name t.new.name s.new.rank t.new.rank
    s.new.share t.new.share s.result p.1 s.ensures.0 s.ensures.1 t.ensures.0 t.ensures.1
