-- `word` meets its contract: the letters from i on, behind what there is, give the whole. Assumes nothing.
use Rattle.std.proofs.Common.{◌≡◌, ℕ, zero, suc, ◌+◌, ◌-◌, ◌*◌, ◌≤◌, ◌<◌, List, [], ◌∷◌, drop, sym, ◌∙◌, add-one, arith}
use Rattle.letters.specs.Reversal.{letters_of}
use Rattle.digest_groups_words.specs.Word.{packed}
use Rattle.digest_groups_words.specs.WordLaws.{packed-next, word_small}
use Rattle.digest_groups_words.proofs.words.word.Goals.{At-loop-i}
use Rattle.digest_groups_words.proofs.words.word.Goals as goal

-- more letters give no less
packed_least : (h k : ℕ) (xs : List ℕ) → h ≤ packed h k xs
packed_least h zero xs = omega arith
packed_least h (suc k) [] = omega (arith, packed_least (h * 27) k [])
packed_least h (suc k) (x ∷ xs) = omega (arith, packed_least (h * 27 + (x - 64)) k xs)

-- what there is fits
fits : (c : At-loop-i) → c.loop-i.h < 4294967296
fits c = let a = c.args in
    let l = c.loop-i in
    let xs = letters_of a.decoy a.part.now in
    omega (arith, packed_least l.h (6 - l.i) (drop l.i xs), l.invariant, word_small a.front xs c.requires.1 c.requires.0)

pub next-h-requires : goal.next-h-requires
next-h-requires c = omega (arith, fits (goal.at.next-h-requires c).At-loop-i)

pub loop-i-preserved : goal.loop-i-preserved
loop-i-preserved c = let l = c.loop-i in
    let xs = letters_of c.args.decoy c.args.part.now in
    let k : 6 - l.i ≡ suc (6 - suc l.i) = omega arith in
    rw (c.next-h.ensures.0, add-one l.i) (sym (packed-next l.h (6 - suc l.i) l.i xs) ∙ rw k at l.invariant)

pub overflow_cast-result : goal.overflow_cast-result
overflow_cast-result c = omega (arith, fits (goal.at.overflow_cast-result c).At-loop-i)

pub returns : goal.returns
returns c = let e : c.loop-i.i ≡ 6 = omega arith in rw e at c.loop-i.invariant
