-- The tables behind windows of n sites.
use Rattle.std.specs.Prelude.{ℕ, suc, ◌+◌, ◌≤◌, ◌<◌, ◌≡◌, List, length, get_or}
use Rattle.enzyme_windows.specs.Pieces.{end_to_end}
use Rattle.enzyme_windows.specs.Shared.{SameWindow, Named, SharedUpTo}
use Rattle.enzyme_windows.specs.StartLaws.{piece_start}
use Rattle.enzyme_keys.specs.Keys.{SiteWithin}
use Rattle.enzyme_rows.specs.Steps.{AmongFirst, FirstDiffer, StandTogether, RunStarts}

-- the letters are cut into m texts, and the table says where each starts and where the last one ends
pub record TextsPlaced (ts : List (List ℕ)) (s starts : List ℕ) (m : ℕ) : Type 0 where
  pub letters : end_to_end ts ≡ s
  pub many : length ts ≡ m
  pub room : m < length starts
  pub start : (i : ℕ) → i ≤ m → get_or starts i 0 ≡ piece_start ts i

-- g of m sites stand first in the order
pub record SitesReady (s starts order : List ℕ) (g m : ℕ) : Type 0 where
  pub few : g ≤ m
  pub small : m ≤ 65536
  pub apart : FirstDiffer order g
  pub inside : (z : ℕ) → AmongFirst order g z → z < m
  pub sites : (z : ℕ) → z < m → SiteWithin s starts z

-- the first g sites in the order are those whose windows of n + 1 sites may be equal to others; their ranks tell windows of n sites apart
pub record LevelKnown (ts : List (List ℕ)) (order name rank share : List ℕ) (n g : ℕ) : Type 0 where
  pub named : Named ts (λ i. get_or name i 0)
  pub inside : (z : ℕ) → AmongFirst order g z → z + n < length ts
  pub each : (z v : ℕ) → (z ≡ v → ⊥) → SameWindow ts (suc n) z v → AmongFirst order g z
  pub same : (z v : ℕ) → AmongFirst order g z → AmongFirst order g v → SameWindow ts n z v → get_or rank z 0 ≡ get_or rank v 0
  pub back : (z v : ℕ) → AmongFirst order g z → AmongFirst order g v → get_or rank z 0 ≡ get_or rank v 0 → SameWindow ts n z v
  pub counted : SharedUpTo ts n (λ i. get_or share i 0)

-- windows of n sites are ranked: the first g sites in the order are those whose windows may be equal to others; equal ones stand together, by
-- a text that tells them apart, `starting` says where the run of each place starts, and the rank of a site is where its run starts
pub record LevelRanked (ts : List (List ℕ)) (s starts order starting name rank share : List ℕ) (n g m : ℕ) : Type 0 where
  pub placed : TextsPlaced ts s starts m
  pub ready : SitesReady s starts order g m
  pub named : Named ts (λ i. get_or name i 0)
  pub text : ℕ → List ℕ
  pub lined : StandTogether text order g
  pub runs : RunStarts text order starting g
  pub ranks : (p : ℕ) → p < g → get_or rank (get_or order p 0) 0 ≡ get_or starting p 0
  pub each : (z v : ℕ) → (z ≡ v → ⊥) → SameWindow ts n z v → AmongFirst order g z
  pub same : (z v : ℕ) → AmongFirst order g z → AmongFirst order g v → SameWindow ts n z v → text z ≡ text v
  pub back : (z v : ℕ) → AmongFirst order g z → AmongFirst order g v → text z ≡ text v → SameWindow ts n z v
  pub counted : SharedUpTo ts n (λ i. get_or share i 0)
