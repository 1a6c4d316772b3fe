-- `first_bad_digest` meets its contract. Assumes nothing.
use Prim.Native.Nat.{◌+◌, ◌-◌, ◌*◌, ◌/◌}
use native.Mathlib.Omega.{arith}
use mathlib.Core.Path.{◌≡◌, sym, ap, ◌∙◌}
use mathlib.Core.Bool.{not}
use lib.ListN.{length}
use Rattle.records.specs.SeekingLaws.{seeking_all, seeking_stop, seeking_on, seeking_end}
use Rattle.digest_groups_spec.specs.DigestGroups.{digest_at}
use Rattle.digest_groups_spec.specs.DigestGrouping.{good_digest, first_bad_digest}
use Rattle.digest_groups.proofs.tests.first_bad_digest.Goals.{After-is_good_digest}
use Rattle.digest_groups.proofs.tests.first_bad_digest.Goals as goal

-- what the test of the digest's part says of the digest
told : (c : After-is_good_digest)
    → c.is_good_digest.result ≡ good_digest c.args.bounds.now c.args.proteins (digest_at c.args.digests.now c.loop-i.i)
told c =
    let i = c.loop-i.i in
    let n : 20 * i + 20 - 20 * i ≡ 20 = omega arith in
    rw n at c.is_good_digest.ensures

pub loop-i-init : goal.loop-i-init
unfolding first_bad_digest
loop-i-init c = seeking_all

pub loop-i-preserved : goal.loop-i-preserved
loop-i-preserved c = seeking_on c.loop-i.invariant (omega arith) (ap not (sym (told (goal.at.loop-i-preserved c).After-is_good_digest) ∙ c.if-not-is_good_digest.false))

pub returns-then-not-is_good_digest : goal.returns-then-not-is_good_digest
returns-then-not-is_good_digest c = seeking_stop c.loop-i.invariant (omega arith) (ap not (sym (told (goal.at.returns-then-not-is_good_digest c).After-is_good_digest) ∙ c.if-not-is_good_digest.true))

pub returns : goal.returns
returns c = let e : length c.args.digests.now / 20 ≡ c.loop-i.i = omega arith in e ∙ seeking_end c.loop-i.invariant (omega arith)
