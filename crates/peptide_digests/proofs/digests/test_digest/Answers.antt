-- `test_digest` meets its contract: one test after the other. Assumes nothing.
use Rattle.std.proofs.Common.{◌≡◌, true, false, ◌&&◌, length, leb, sym, ◌∙◌, arith}
use Rattle.peptide_digests.specs.DigestTestLaws.{whole-masses, tested-digest-size, tested-digest-length, tested-digest_letter, tested-digest-passed, tested-digest-field}
use Rattle.enzyme_keep.specs.Digests.{good_record, end_of}
use Rattle.peptide_digests.proofs.digests.test_digest.Goals as goal

pub returns-then-too_long : goal.returns-then-too_long
returns-then-too_long c =
    let a = c.args in
    tested-digest-size a.letters.now a.bytes.now a.masses.now (sym c.too_long.ensures ∙ c.if-too_long.true)

pub returns-then-not_whole : goal.returns-then-not_whole
returns-then-not_whole c =
    let a = c.args in
    tested-digest-length a.letters.now a.bytes.now a.masses.now (sym c.too_long.ensures ∙ c.if-too_long.false) (sym c.not_whole.ensures ∙ c.if-not_whole.true)

pub first_unfit-requires : goal.first_unfit-requires
first_unfit-requires c = whole-masses c.args.bytes.now c.args.masses.now (sym c.not_whole.ensures ∙ c.if-not_whole.false)

pub returns-in-Some : goal.returns-in-Some
returns-in-Some c =
    let a = c.args in
    let first = rw (c.u32_at-start.ensures, c.u32_at-end.ensures) at c.in-Some.ensures.first in
    tested-digest_letter a.letters.now a.bytes.now a.masses.now (sym c.too_long.ensures ∙ c.if-too_long.false) (sym c.not_whole.ensures ∙ c.if-not_whole.false) c.in-Some.bad first c.in-Some.ensures.within

pub returns-then-is_good-end : goal.returns-then-is_good-end
returns-then-is_good-end c =
    let a = c.args in
    let e : (good_record a.bytes.now && leb (end_of a.bytes.now) (length a.letters.now)) ≡ true = rw (c.is_good.ensures, c.u32_at-end.ensures) at c.if-is_good-end.true in
    let first = rw (c.u32_at-start.ensures, c.u32_at-end.ensures) at c.in_default.ensures.first in
    tested-digest-passed a.letters.now a.bytes.now a.masses.now (sym c.too_long.ensures ∙ c.if-too_long.false) (sym c.not_whole.ensures ∙ c.if-not_whole.false) (length a.letters.now) first (omega arith) e

pub returns-else-is_good-end : goal.returns-else-is_good-end
returns-else-is_good-end c =
    let a = c.args in
    let e : (good_record a.bytes.now && leb (end_of a.bytes.now) (length a.letters.now)) ≡ false = rw (c.is_good.ensures, c.u32_at-end.ensures) at c.if-is_good-end.false in
    let first = rw (c.u32_at-start.ensures, c.u32_at-end.ensures) at c.in_default.ensures.first in
    tested-digest-field a.letters.now a.bytes.now a.masses.now (sym c.too_long.ensures ∙ c.if-too_long.false) (sym c.not_whole.ensures ∙ c.if-not_whole.false) (length a.letters.now) first (omega arith) e
