-- `keep_used` meets its contract. The invariant: of the first i sites those that may be used stand at the front. Assumes
-- nothing.
use Rattle.std.proofs.Common.{ℕ, refl, ap, not, eqb, get_or, arith}
use Rattle.peptide_slots.specs.UsedLaws.{used-first-all, used-first-more, used-first-none}
use Rattle.peptide_slots.proofs.sites.keep_used.Goals as goal

pub loop-i-init : goal.loop-i-init
loop-i-init c = used-first-none _ _

pub loop-i-preserved : goal.loop-i-preserved
loop-i-preserved c =
    let a = c.args in
    let l = c.loop-i in
    let p = c.put_if-next in
    used-first-more a.rules.now a.out.now l.out l.i l.next _ (get_or l.out l.i 0) p.new.out p.result (omega (arith, c.loop-i-test.true, c.requires)) refl (rw (← c.from-rule.ensures) (ap (λ (z : ℕ). not (eqb z 0)) c.u32_at-limit.ensures)) p.ensures l.invariant

pub put_if-next-requires : goal.put_if-next-requires
put_if-next-requires c = let u = c.loop-i.invariant in omega (arith, u.few, u.len)

pub returns : goal.returns
returns c = used-first-all _ _ _ _ _ _ (omega arith) (omega arith) c.loop-i.invariant

pub shape_of-out : goal.shape_of-out
shape_of-out c = c.loop-i.invariant.len
