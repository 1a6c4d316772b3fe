-- What the tables of a level say of the window from a site: `order` has g sites in a row, `runs` the place at which the run of each starts,
-- `rank` the same by site, `share` how many sites it shares with an earlier one.
use Rattle.std.specs.Prelude.{ℕ, zero, suc, ◌-◌, cond, List, ltb, leb, eqb, get_or}
use Rattle.enzyme_weights.specs.declared.level.Level.{Level}

-- how many places from q on have p as the start of their run, of the next `left`
abbrev pub run_from : List ℕ → ℕ → ℕ → ℕ → ℕ
run_from runs p q zero = 0
run_from runs p q (suc left) =
    let later = run_from runs p (suc q) left in
    cond (eqb (get_or runs q 0) p) (suc later) 0

-- how many of the first g places belong to the run that starts at p
abbrev pub run_size : List ℕ → ℕ → ℕ → ℕ
run_size runs g p = run_from runs p p (g - p)

-- the size of the run of site i, where it is the first of one; else 1
abbrev pub class_size : List ℕ → List ℕ → List ℕ → ℕ → ℕ → ℕ
class_size order runs rank g i = cond (ltb (get_or rank i 0) g) (cond (eqb (get_or order (get_or rank i 0) 0) i) (run_size runs g (get_or rank i 0)) 1) 1

-- 0 for a window of n sites that an earlier site starts as well
abbrev pub weight_in : List ℕ → List ℕ → List ℕ → List ℕ → ℕ → ℕ → ℕ → ℕ
weight_in order runs rank share g n i = cond (leb n (get_or share i 0)) 0 (class_size order runs rank g i)

-- the same of the tables of a level
abbrev pub weight_at : Level → ℕ → ℕ → ℕ
weight_at level n i = weight_in level.order.now level.runs.now level.rank.now level.share.now level.g n i
