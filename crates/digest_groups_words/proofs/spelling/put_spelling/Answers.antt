-- `put_spelling` meets its contract. Assumes nothing.
use native.Mathlib.Omega.{arith}
use lib.ListN.{length-set}
use Rattle.digest_groups_words.proofs.spelling.put_spelling.Goals as goal

pub bounds-w-n : goal.bounds-w-n
bounds-w-n c = simp length-set (omega arith)

pub bounds-w-n-2 : goal.bounds-w-n-2
bounds-w-n-2 c = simp length-set (omega arith)

pub bounds-w-n-3 : goal.bounds-w-n-3
bounds-w-n-3 c = simp length-set (omega arith)
