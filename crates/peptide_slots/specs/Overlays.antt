-- How the fixed rules reach every form at the cost of one pass: a table of what they put into an empty form.
use Rattle.std.specs.Prelude.{ℕ, suc, List, [], ◌∷◌, get_or}
use Rattle.peptide_slots.specs.Hits.{fill}

-- f at each place and element, places counted from k
unfoldable pub map_at : (ℕ → ℕ → ℕ) → ℕ → List ℕ → List ℕ
map_at f k [] = []
map_at f k (x ∷ xs) = f k x ∷ map_at f (suc k) xs

-- each empty slot takes what the table has for it
unfoldable pub overlay : List ℕ → List ℕ → List ℕ
unfolding map_at
overlay table form = map_at (λ (k : ℕ) (old : ℕ). fill (get_or table k 0) old) 0 form
