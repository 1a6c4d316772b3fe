-- `insert` meets its contract. Assumes nothing.
use native.Mathlib.Omega.{arith}
use Prim.Native.Nat.{◌≤◌}
use mathlib.Core.Path.{◌∙◌}
use lib.ListN.{length}
use Rattle.enzyme_cuts.specs.Cutting.{range, site, part}
use Rattle.enzyme_keep.specs.Buffer.{ranges_in, links_in}
use Rattle.enzyme_keep.specs.BufferLaws.{length_links}
use Rattle.enzyme_list.specs.Chain.{next_of}
use Rattle.enzyme_list.specs.InsertLaws.{place-next, place-within}
use Rattle.enzyme_list.specs.StoreLaws.{record_inserted, first_bytes, first_head, behind_bytes, behind-head}
use Rattle.enzyme_list.proofs.linking.insert.Goals.{Start}
use Rattle.enzyme_list.proofs.linking.insert.Goals as goal

-- the place in the list, and what stands behind it, are among the first count records
within : (c : Start) → c.args.prev ≤ c.args.count
within c = let a = c.args in
    let h = place-within a.letters.now (ranges_in a.count a.out.now) (links_in a.count a.out.now) a.head a.prev (part a.letters.now (site a.a a.e)) c.requires.5 in
    rw (length_links a.count a.out.now) at h

next : (c : Start) → next_of (links_in c.args.count c.args.out.now) c.args.head c.args.prev ≤ c.args.count
next c = let a = c.args in
    let h = place-next a.letters.now (ranges_in a.count a.out.now) (links_in a.count a.out.now) a.head a.prev (part a.letters.now (site a.a a.e)) c.requires.5 in
    rw (length_links a.count a.out.now) at h

pub behind-next-requires : goal.behind-next-requires
behind-next-requires c = let h = within (goal.at.behind-next-requires c).Start in
    let k = c.requires.0 in
    (omega arith, h)

pub overflow_cast-link : goal.overflow_cast-link
overflow_cast-link c = let h = next (goal.at.overflow_cast-link c).Start in
    let k = c.behind-next.ensures in
    omega arith

pub returns-then-prev-eq0 : goal.returns-then-prev-eq0
returns-then-prev-eq0 c = let a = c.args in
    let p = c.requires in
    record_inserted a.letters.now a.count a.head a.prev (range a.a a.e a.missed a.semi) a.times a.out.now p.0 p.2 p.3 p.4 (within (goal.at.returns-then-prev-eq0 c).Start) p.1 (next (goal.at.returns-then-prev-eq0 c).Start) _ _
    (c.put_record.ensures ∙ rw c.behind-next.ensures (first_bytes (length a.letters.now) (range a.a a.e a.missed a.semi) a.times a.count a.prev (next_of (links_in a.count a.out.now) a.head a.prev) a.out.now c.if-prev-eq0.true))
    (first_head a.count a.head a.prev a.out.now c.if-prev-eq0.true)

pub overflow_mul-at : goal.overflow_mul-at
overflow_mul-at c = let h = within (goal.at.overflow_mul-at c).Start in
    let k = c.requires.1 in
    omega arith

pub overflow_add-at : goal.overflow_add-at
overflow_add-at c = let h = within (goal.at.overflow_add-at c).Start in
    let k = c.requires.1 in
    omega arith

pub returns : goal.returns
returns c = let a = c.args in
    let p = c.requires in
    record_inserted a.letters.now a.count a.head a.prev (range a.a a.e a.missed a.semi) a.times a.out.now p.0 p.2 p.3 p.4 (within (goal.at.returns c).Start) p.1 (next (goal.at.returns c).Start) _ _
    (c.put_u32.ensures ∙ rw (c.put_record.ensures, c.behind-next.ensures) (behind_bytes (length a.letters.now) (range a.a a.e a.missed a.semi) a.times a.count a.prev (next_of (links_in a.count a.out.now) a.head a.prev) a.out.now c.if-prev-eq0.false))
    (behind-head a.count a.head a.prev a.out.now c.if-prev-eq0.false)
