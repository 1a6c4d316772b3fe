-- `put_at` meets its contract: what has room is stored at once, the rest is lost. Assumes nothing.
use Rattle.std.proofs.Common.{◌≡◌, ◌+◌, ◌-◌, ◌≤◌, length, take, min, ap, take_all, ⊎_elim, ℕ, ◌<◌, ◌⊎◌, inl, inr, sym, ◌∙◌, arith, length-take-le}
use Rattle.std.proofs.lemmas.List.Edits.{sets}
use Rattle.lists.specs.Tests.{below?}
use Rattle.records.specs.LeLaws.{sets_out}
use Rattle.records.specs.StoreLaws.{part_stored, sets_cut}
use Rattle.records.proofs.work.put_at.Goals as goal

either : (n a b : ℕ) → n ≡ min a b → (b ≤ n) ⊎ (n ≡ a)
either n a b e = ⊎_elim (λ (h : a < b). inr (omega (arith, e))) (λ (h : b ≤ a). inl (omega (arith, e))) (below? a b)

pub returns-then-at-out : goal.returns-then-at-out
returns-then-at-out g c =
    let a = c.args in
    let n = c.min-n.result in
    let m : n ≡ min (length a.items.now) (length a.out.now - a.at) = c.min-n.ensures in
    let l : length (take n a.items.now) ≡ n = length-take-le n a.items.now (omega (arith, m)) in
    part_stored a.out.now _ (take n a.items.now) a.at (a.at + n - a.at) (omega (arith, m)) c.copy_from_slice.ensures.after (omega (arith, l))
    ∙ ⊎_elim (λ (h : length a.out.now - a.at ≤ n). sets_cut a.out.now a.items.now a.at n (omega arith) (omega (arith, m))) (λ (h : n ≡ length a.items.now). ap (sets a.out.now a.at) (take_all n a.items.now (omega (arith, h)))) (either n (length a.items.now) (length a.out.now - a.at) m)

pub returns-else-at-out : goal.returns-else-at-out
returns-else-at-out g c = sym (sets_out c.args.items.now c.args.out.now c.args.at c.if-at-out.false)
