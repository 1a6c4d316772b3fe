-- What the sort asks for, and what it leaves. Assumes nothing.
use Rattle.std.specs.Prelude.{ℕ, ◌≤◌, ◌<◌, ◌≡◌, refl, List, length, get_or, take}
use Rattle.std.proofs.Common.{arith, get_or-take, length-take-le}
use Rattle.sorting_spec.specs.Sort.{sorted}
use Rattle.enzyme_keys.specs.declared.keys.Key.{Key}
use Rattle.enzyme_keys.specs.Keys.{Sites, sort_key, le_of}
use Rattle.enzyme_keys.specs.KeyLaws.{le_of-orders, le_of_rises, le_of-between}
use Rattle.enzyme_rows.specs.Steps.{Sited, FirstDiffer, Arranged}
use Rattle.enzyme_runs.specs.ArrangeLaws.{sorted-arranged}

pub sited_sites : (s starts order : List ℕ) (g : ℕ) → g ≤ length order → Sited s starts order g → Sites s starts (take g order)
sited_sites s starts order g h sd i l =
    let n : i < g = omega (arith, length-take-le g order h) in
    let x = get_or order i 0 in
    rw (get_or-take g order i 0 n) (sd x x (i, n, refl) (omega arith))

pub sort_arranged : (key : Key) (s starts name rank y x : List ℕ) (g : ℕ) → g ≤ length y → length x ≡ length y → take g x ≡ sorted (le_of key s starts name rank) (take g y) → FirstDiffer y g
    → Arranged (sort_key key s starts name rank) y x g
sort_arranged key s starts name rank y x g h l e a =
    sorted-arranged (le_of key s starts name rank) (le_of-orders key s starts name rank) (sort_key key s starts name rank) (le_of_rises key s starts name rank)
    (le_of-between key s starts name rank) y x g h (omega arith) e a

pub sited_arranged : (text : ℕ → List ℕ) (s starts y x : List ℕ) (g : ℕ) → Arranged text y x g → Sited s starts y g → Sited s starts x g
sited_arranged text s starts y x g ar sd z v h l = sd z v (ar.from z h) l
