-- `collect_used` meets its contract: all sites are written, then sifted. Assumes nothing.
use Prim.Native.Nat.{◌≤◌}
use native.Mathlib.Omega.{arith}
use lib.ListN.{length}
use Rattle.peptide_slots.specs.Sites.{all_sites}
use Rattle.peptide_slots.specs.SiteLaws.{all_few}
use Rattle.peptide_slots.specs.UsedLaws.{used-first_taken}
use Rattle.peptide_slots.specs.WroteLaws.{wrote_length}
use Rattle.peptide_slots.proofs.sites.collect_used.Goals as goal

pub keep_used-requires : goal.keep_used-requires
keep_used-requires c =
    let a = c.args in
    let h = c.requires in
    let k = c.collect-m in
    omega (arith, k.ensures.next, wrote_length _ _ _ _ _ k.ensures, h.2, all_few a.letters a.n a.position a.rules.now h.0 h.1)

pub returns : goal.returns
returns c =
    let a = c.args in
    let h = c.requires in
    let k = c.collect-m in
    let u = c.keep_used in
    let vs = all_sites a.letters a.n a.position a.rules.now in
    let few : length vs ≤ 2112 = all_few a.letters a.n a.position a.rules.now h.0 h.1 in
    let t = used-first_taken a.rules.now vs a.out.now k.new.out u.new.out k.result u.result (omega (arith, h.2)) k.ensures u.ensures in
    (omega (arith, t.0), t.1)
