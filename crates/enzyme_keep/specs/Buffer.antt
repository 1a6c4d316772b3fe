-- The records of a buffer read back, and their links. The public statement does not cite this.
use Rattle.std.specs.Prelude.{ℕ, zero, suc, ◌+◌, ◌*◌, List, [], ◌∷◌, ◌++◌, take, drop, get_or}
use Rattle.std.proofs.lemmas.List.Edits.{sets}
use Rattle.records.specs.Le.{le, number_at}
use Rattle.enzyme_cuts.specs.Cutting.{Range, range}

-- the record of a range whose position is told
unfoldable pub placed_record : ℕ → ℕ → Range → ℕ → List ℕ
placed_record place last r times = le 4 r.from ++ (le 4 r.to ++ (r.missed ∷ r.semi ∷ place ∷ 0 ∷ (le 4 last ++ le 4 times)))

-- the range of the record at a place
abbrev pub range_at : List ℕ → ℕ → Range
range_at out at = range (number_at 4 out at) (number_at 4 out (at + 4)) (get_or out (at + 8) 0) (get_or out (at + 9) 0)

-- the ranges of the first k records
abbrev pub ranges_in : ℕ → List ℕ → List Range
ranges_in zero out = []
ranges_in (suc k) out = ranges_in k out ++ (range_at out (20 * k) ∷ [])

-- their links, which stand where the protein will stand
abbrev pub links_in : ℕ → List ℕ → List ℕ
links_in zero out = []
links_in (suc k) out = links_in k out ++ (number_at 4 out (20 * k + 12) ∷ [])

-- the bytes with p in the place of the first k links
abbrev pub sealed : ℕ → ℕ → List ℕ → List ℕ
sealed p zero out = out
sealed p (suc k) out = sets (sealed p k out) (20 * k + 12) (le 4 p)

-- the same without the numbers behind them: 0 in the place of each
abbrev pub bared : ℕ → ℕ → List ℕ → List ℕ
bared p zero out = out
bared p (suc k) out = sets (bared p k out) (20 * k + 12) (le 4 p ++ le 4 0)

-- the bytes in which record k says how often its letters occur
abbrev pub times_at : ℕ → List ℕ → List ℕ
times_at k out = take 4 (drop (20 * k + 16) out)

-- the bytes with f of its range in each of the first k records
abbrev pub retold : (Range → ℕ) → ℕ → List ℕ → List ℕ
retold f zero out = out
retold f (suc k) out = sets (retold f k out) (20 * k + 16) (le 4 (f (range_at out (20 * k))))
