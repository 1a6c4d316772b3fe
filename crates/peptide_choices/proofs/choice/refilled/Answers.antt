-- `refilled` meets its contract. The invariant: the places from i up to j follow one another. Assumes nothing.
use Rattle.std.proofs.Common.{ℕ, suc, ◌+◌, ◌-◌, ◌≤◌, ◌<◌, ◌≡◌, List, [], ◌∷◌, ◌++◌, length, get_or, take, drop, set, sym, ap, ◌∙◌, arith, rules, add-one, append_assoc, take-append-drop, length-append, length-take-le, drop-cons}
use Rattle.std.proofs.lemmas.List.{set_at}
use Rattle.std.proofs.Math.Seq.{append_snoc}
use Rattle.lists.specs.RowLaws.{length_up, up-snoc}
use Rattle.lists.specs.Lists.{up_from}
use Rattle.peptide_choices.proofs.choice.refilled.Goals as goal

-- one place more
one_more : (xs : List ℕ) (i j a : ℕ) → i ≤ j → j < length xs
    → set (take i xs ++ (up_from (suc a) (j - i) ++ drop j xs)) j (a + 1 + (j - i)) ≡ take i xs ++ (up_from (suc a) (j + 1 - i) ++ drop (j + 1) xs)
one_more xs i j a h l =
    let p = take i xs ++ up_from (suc a) (j - i) in
    let v = a + 1 + (j - i) in
    let n : length p ≡ j = length-append (take i xs) (up_from (suc a) (j - i)) ∙ simp (length-take-le i xs (omega arith), length_up) (omega arith) in
    let d : drop j xs ≡ get_or xs j 0 ∷ drop (suc j) xs = drop-cons xs j 0 l in
    let k : j + 1 - i ≡ suc (j - i) = omega arith in
    let w : suc a + (j - i) ≡ v = omega arith in
    ap (λ (z : List ℕ). set z j v) (sym (append_assoc (take i xs) (up_from (suc a) (j - i)) (drop j xs)) ∙ ap (λ (z : List ℕ). p ++ z) d)
    ∙ set_at p (get_or xs j 0) (drop (suc j) xs) v j n
    ∙ append_assoc (take i xs) (up_from (suc a) (j - i)) (v ∷ drop (suc j) xs)
    ∙ ap (λ (z : List ℕ). take i xs ++ z)
    (sym (append_snoc (up_from (suc a) (j - i)) v (drop (suc j) xs))
    ∙ ap (λ (z : ℕ). (up_from (suc a) (j - i) ++ (z ∷ [])) ++ drop (suc j) xs) (sym w)
    ∙ ap (λ (z : List ℕ). z ++ drop (suc j) xs) (sym (up-snoc (suc a) (j - i)) ∙ ap (up_from (suc a)) (sym k))
    ∙ ap (λ (z : ℕ). up_from (suc a) (j + 1 - i) ++ drop z xs) (sym (add-one j)))

pub loop-j-init : goal.loop-j-init
loop-j-init c =
    let e : c.args.i - c.args.i ≡ 0 = omega arith in
    rw e (sym (take-append-drop c.args.i c.args.at))

pub loop-j-preserved : goal.loop-j-preserved
loop-j-preserved c =
    let xs = c.args.at in
    let i = c.args.i in
    let j = c.loop-j.j in
    let l : length xs ≡ 8 = search rules in
    ap (λ (z : List ℕ). set z j (get_or xs i 0 + 1 + (j - i))) c.loop-j.invariant ∙ one_more xs i j (get_or xs i 0) (omega arith) (omega arith)

pub returns : goal.returns
returns c =
    let e : c.loop-j.j ≡ c.args.n = omega arith in
    rw e at c.loop-j.invariant
