-- `push_slots` meets its contract: two sites that may be hit, then those of the residues. Assumes nothing.
use native.Mathlib.Omega.{arith}
use Rattle.peptide_slots.specs.SiteLaws.{wrote_if, slots_wrote}
use Rattle.peptide_slots.proofs.sites.push_slots.Goals as goal

pub put_if-second-requires : goal.put_if-second-requires
put_if-second-requires c =
    let p = c.put_if-first in
    omega (arith, c.requires, p.auto.out, wrote_if _ _ _ _ _ _ p.ensures)

pub push_places-requires : goal.push_places-requires
push_places-requires c =
    let p = c.put_if-first in
    let q = c.put_if-second in
    omega (arith, c.requires, p.auto.out, q.auto.out, wrote_if _ _ _ _ _ _ p.ensures, wrote_if _ _ _ _ _ _ q.ensures)

pub returns : goal.returns
returns c =
    let a = c.args in
    let p = c.put_if-first in
    let q = c.put_if-second in
    let r = c.push_places in
    slots_wrote a.letters a.n a.rule.kind a.rule.position a.rule.letter a.rule.base _ _ a.out.now a.at p.new.out p.result q.new.out q.result _ r.result
    c.at_first.ensures
    c.at_last.ensures
    p.ensures
    q.ensures
    r.ensures
