-- `put_record` meets its contract: the text is stored, then the zeros behind it. Assumes nothing.
use Rattle.std.specs.Prelude.{ℕ, ◌≡◌, ◌+◌, ◌-◌, ◌≤◌, List, length, take, drop, replicate}
use Rattle.std.proofs.Common.{sym, ap, ◌∙◌, arith, length-drop, length-take-le}
use Rattle.std.proofs.Math.Seq.{length-sets}
use Rattle.std.proofs.lemmas.List.{length-replicate}
use Rattle.std.proofs.lemmas.List.Edits.{sets}
use Rattle.records.specs.LeLaws.{sets_append}
use Rattle.records.specs.StoreLaws.{store_on, store_end, part_stored}
use Rattle.fasta.proofs.naming.put_record.Goals as goal

pub loop-i-preserved : goal.loop-i-preserved
loop-i-preserved c = let l = c.loop-i in store_on l.out c.args.text.now l.i l.i (omega arith) ∙ l.invariant

pub returns : goal.returns
returns c =
    let t = c.args.text.now in
    let o = c.args.out.now in
    let l = c.loop-i in
    let n = length t in
    let z : List ℕ = replicate (64 - n) 0 in
    let r : n ≤ 64 = c.requires.0 in
    let q : 64 ≤ length o = c.requires.1 in
    let a : l.out ≡ sets o 0 t = store_end l.out t l.i l.i (omega arith) ∙ l.invariant in
    let s : length (sets o 0 t) ≡ length o = length-sets o 0 t in
    let k : length (take (64 - n) (drop n (sets o 0 t))) ≡ 64 - n = length-take-le (64 - n) (drop n (sets o 0 t)) (omega (arith, length-drop n (sets o 0 t))) in
    let f : c.fill.new.self ≡ z = (rw a at (c.fill.ensures.after (λ y e. cc))) ∙ ap (λ (m : ℕ). replicate m 0) k in
    let e : 0 + n ≡ n = omega arith in
    rw a (part_stored (sets o 0 t) c.fill.new.self z n (64 - n) (omega (arith, s)) f (sym (length-replicate (64 - n) 0)) ∙ rw e at (sym (sets_append t z o 0)))
