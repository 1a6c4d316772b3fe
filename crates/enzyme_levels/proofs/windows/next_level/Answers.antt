-- `next_level` meets its contract. Assumes nothing.
use native.Mathlib.Omega.{arith}
use Rattle.enzyme_levels.specs.LevelLaws.{level_kept, ready_kept, level_more}
use Rattle.enzyme_levels.proofs.windows.next_level.Goals as goal

pub rank_sites-requires : goal.rank_sites-requires
rank_sites-requires c = let a = c.args in
    let p = c.requires in
    let e = c.keep-kept in
    (ready_kept p.0.0 a.letters.now a.starts.now a.order.now a.other.now a.name.now a.rank.now a.share.now e.new.order a.k a.g e.result a.m p.0.1 e.ensures, p.4, omega (arith, e.auto.order, p.2), p.3, p.5)

pub returns : goal.returns
returns c = let a = c.args in
    let e = c.keep-kept in
    let u = c.rank_sites in
    let y = e.new.order in
    let x = u.new.order in
    let r = u.new.other in
    let rank' = u.new.rank in
    let share' = u.new.share in
    λ ts lr. level_more ts a.letters.now a.starts.now y x r a.name.now a.rank.now rank' a.share.now share' e.result a.m a.k lr.placed
    (ready_kept ts a.letters.now a.starts.now a.order.now a.other.now a.name.now a.rank.now a.share.now y a.k a.g e.result a.m lr e.ensures)
    (level_kept ts a.letters.now a.starts.now a.order.now a.other.now a.name.now a.rank.now a.share.now y a.k a.g e.result a.m lr e.ensures) u.ensures
