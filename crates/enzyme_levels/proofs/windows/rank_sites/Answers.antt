-- `rank_sites` meets its contract. Assumes nothing.
use native.Mathlib.Omega.{arith}
use Rattle.enzyme_keys.specs.Keys.{sort_key}
use Rattle.enzyme_levels.specs.ReadyLaws.{ready_sited, for_writing}
use Rattle.enzyme_levels.proofs.windows.rank_sites.Goals as goal

pub line_up-requires : goal.line_up-requires
line_up-requires c = let a = c.args in
    let p = c.requires in
    let r = p.0 in
    (omega (arith, r.few, p.2), omega (arith, r.few, p.3), omega (arith, r.few, r.small), r.apart, ready_sited a.letters.now a.starts.now a.order.now a.g a.m r)

pub bring-requires : goal.bring-requires
bring-requires c = let a = c.args in
    let p = c.requires in
    let u = c.line_up in
    for_writing (sort_key a.key a.letters.now a.starts.now a.name.now a.rank.now) a.letters.now a.starts.now a.order.now u.new.order a.other.now u.new.runs a.g a.m
    p.0 u.ensures.0 u.auto.order p.2 u.auto.runs p.3 a.rank.now p.1

pub mark-requires : goal.mark-requires
mark-requires c = let a = c.args in
    let p = c.requires in
    let u = c.line_up in
    for_writing (sort_key a.key a.letters.now a.starts.now a.name.now a.rank.now) a.letters.now a.starts.now a.order.now u.new.order a.other.now u.new.runs a.g a.m
    p.0 u.ensures.0 u.auto.order p.2 u.auto.runs p.3 a.share.now p.4
