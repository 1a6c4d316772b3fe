-- Document 01: a peptide "holds its letters and ids in arrays of 64, places past the length 0".
use Rattle.std.specs.Prelude.{ℕ, List, ◌++◌, take, drop, replicate}

-- the n places from one on; past the end stands 0
abbrev pub window : ℕ → ℕ → List ℕ → List ℕ
window n from xs = take n (drop from xs ++ replicate n 0)
