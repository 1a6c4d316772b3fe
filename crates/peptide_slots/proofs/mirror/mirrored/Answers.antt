-- `mirrored` meets its contract: what stands between the first and the last place is turned round. Assumes nothing.
use Rattle.std.proofs.Common.{ℕ, zero, suc, ◌-◌, ◌≤◌, ◌<◌, ◌≡◌, List, [], ◌∷◌, ◌++◌, length, take, drop, reverse, refl, sym, ap, ◌∙◌, arith, rules, append_assoc, take-append-drop, length-take-le}
use Rattle.std.proofs.lemmas.List.{drop-append-le, take-append-le}
use borrow.Rule.Slice.PartMut.{put_mid}
use Rattle.peptide_slots.specs.Mirror.{mirror}
use Rattle.peptide_slots.proofs.mirror.mirrored.Goals as goal

-- the inner places of a list that is not empty
mirror_inner : (m b : ℕ) (bs : List ℕ) → m ≤ length bs → mirror (suc m) (b ∷ bs) ≡ b ∷ (reverse (take (m - 1) bs) ++ drop (m - 1) bs)
unfolding mirror
mirror_inner m b bs h =
    let l : length (take m bs) ≡ m = length-take-le m bs h in
    let k : m - 1 ≤ length (take m bs) = omega arith in
    let w : take m bs ++ drop m bs ≡ bs = take-append-drop m bs in
    let t : take (m - 1) bs ≡ take (m - 1) (take m bs) = ap (take (m - 1)) (sym w) ∙ take-append-le (m - 1) (take m bs) (drop m bs) k in
    let d : drop (m - 1) bs ≡ drop (m - 1) (take m bs) ++ drop m bs = ap (drop (m - 1)) (sym w) ∙ drop-append-le (m - 1) (take m bs) (drop m bs) k in
    rw (l, t, d) (ap (λ (z : List ℕ). b ∷ z) (append_assoc (reverse (take (m - 1) (take m bs))) (drop (m - 1) (take m bs)) (drop m bs)))

turned : (n : ℕ) (xs ys : List ℕ) → 2 < n → n ≤ length xs → ys ≡ reverse (take (n - 1 - 1) (drop 1 xs)) → put_mid 1 (n - 1 - 1) xs ys ≡ mirror n xs
turned zero xs ys h l e = absurd (omega arith)
turned (suc m) [] ys h l e = absurd (omega arith)
turned (suc m) (b ∷ bs) ys h l e =
    let z : suc m - 1 - 1 ≡ m - 1 = omega arith in
    rw (e, z) (sym (mirror_inner m b bs (omega arith)))

few : (n : ℕ) (xs : List ℕ) → n ≤ 2 → n ≤ length xs → xs ≡ mirror n xs
unfolding mirror
few zero xs h l = refl
few (suc m) [] h l = absurd (omega arith)
few (suc m) (b ∷ bs) h l =
    let z : m - 1 ≡ 0 = omega arith in
    sym (mirror_inner m b bs (omega arith) ∙ rw z refl)

pub returns-then-n-gt2 : goal.returns-then-n-gt2
returns-then-n-gt2 c =
    let n : length c.args.xs ≡ 64 = search rules in
    turned c.args.n c.args.xs _ c.if-n-gt2.true (omega arith) c.reverse.ensures.after

pub returns-else-n-gt2 : goal.returns-else-n-gt2
returns-else-n-gt2 c =
    let n : length c.args.xs ≡ 64 = search rules in
    few c.args.n c.args.xs c.if-n-gt2.false (omega arith)
