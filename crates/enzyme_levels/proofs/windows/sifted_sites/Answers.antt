-- `sifted_sites` meets its contract. Assumes nothing.
use mathlib.Core.Path.{refl}
use native.Mathlib.Omega.{arith}
use lib.ListN.{get_or}
use Rattle.enzyme_levels.specs.ReadyLaws.{sifted_strewn}
use Rattle.enzyme_levels.proofs.windows.sifted_sites.Goals as goal

pub strew-requires : goal.strew-requires
strew-requires c = let p = c.requires in
    let s = c.sift-g in
    let f = s.ensures.few in
    (omega (arith, f, p.0), omega (arith, f, s.auto.order, p.3), omega (arith, f, p.4), λ i h. omega (arith, s.ensures.inside (get_or s.new.order i 0) (i, h, refl), p.2))

pub returns : goal.returns
returns c = let a = c.args in
    let s = c.sift-g in
    let w = c.strew in
    (sifted_strewn a.letters.now a.starts.now s.new.order w.new.order a.m s.result s.ensures w.ensures, c.count_up.ensures)
