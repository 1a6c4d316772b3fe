-- Stretches of entries one behind the other from the start of a slice on, and their boundaries from b on.
use Rattle.std.specs.Prelude.{ℕ, ◌+◌, ◌*◌, ◌%◌, ◌≤◌, ◌<◌, ◌≡◌, Bool, List, map, ltb, length, get_or, drop}
use Rattle.std.proofs.Math.Seq.{slice}
use Rattle.lists.specs.Lists.{up_from, keep}
use Rattle.sorting_spec.specs.Sort.{sorted}
use Rattle.sorting_spec.specs.Lex.{lex_le}
use Rattle.sorting_spec.specs.Joined.{join}
use Rattle.sorting_texts.specs.Text.{entry_text}

-- where stretch g begins; the next begins where it ends
abbrev pub bound_in : List ℕ → ℕ → ℕ → ℕ
bound_in w b g = get_or w (b + g) 0

abbrev pub stretch_in : List ℕ → ℕ → ℕ → List ℕ
stretch_in w b g = slice (bound_in w b g) (bound_in w b (g + 1)) w

abbrev pub some_in : List ℕ → ℕ → ℕ → Bool
some_in w b g = ltb (bound_in w b g) (bound_in w b (g + 1))

-- the groups among the first k that have an entry
abbrev pub somes : List ℕ → ℕ → ℕ → List ℕ
somes w b k = keep (some_in w b) (up_from 0 k)

-- where these begin
abbrev pub some_starts : List ℕ → ℕ → ℕ → List ℕ
some_starts w b k = map (bound_in w b) (somes w b k)

-- a slice with areas of c numbers, the tag's 16 keys from 2c on and then the boundaries
pub record StretchesLaid (w : List ℕ) (c groups : ℕ) : Type 0 where
  pub long : 3 * c + 18 ≤ length w
  pub few : c ≤ 131072
  pub fit : groups ≤ c
  pub first : bound_in w (2 * c + 16) 0 ≡ 0
  pub rising : (g : ℕ) → g < groups → bound_in w (2 * c + 16) g ≤ bound_in w (2 * c + 16) (g + 1)
  pub within : bound_in w (2 * c + 16) groups ≤ c
  pub even : (i : ℕ) → i < bound_in w (2 * c + 16) groups → get_or w i 0 % 2 ≡ 0
  pub small : (i : ℕ) → i < 16 → get_or w (2 * c + i) 0 < 256

-- the text of a group: its entries' texts joined by `/`; the line: these sorted and joined by `;`
abbrev pub text_in : List ℕ → List ℕ → ℕ → ℕ → List ℕ
text_in names w c g = join 47 (map (entry_text names (drop (2 * c) w)) (stretch_in w (2 * c + 16) g))

unfoldable pub line_in : List ℕ → List ℕ → ℕ → ℕ → List ℕ
line_in names w c groups = join 59 (sorted lex_le (map (text_in names w c) (somes w (2 * c + 16) groups)))

-- how many groups the line names
abbrev pub count_in : List ℕ → ℕ → ℕ → ℕ
count_in w c groups = length (somes w (2 * c + 16) groups)
