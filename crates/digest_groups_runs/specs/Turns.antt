-- How groups are made of the sorted numbers of digests, run by run. The public statement does not cite this.
use Rattle.std.specs.Prelude.{ℕ, ◌+◌, ◌-◌, ◌*◌, ◌≤◌, ◌<◌, ◌≡◌, Bool, List, ◌++◌, map, length, get_or, take, drop}
use Rattle.std.proofs.Math.Seq.{slice}
use Rattle.lists.specs.FrameLaws.{Framed}
use Rattle.records.specs.Le.{le}
use Rattle.records.specs.StoreLaws.{stored, stored_from}
use Rattle.sorting_texts.specs.declared.text.By.TheVariants.{Spelled}
use Rattle.sorting_texts.specs.Text.{le_by}
use Rattle.sorting_spec.specs.Runs.{run_length, runs_of}
use Rattle.digest_groups_spec.specs.DigestGroups.{digest_at, digests_in, gathered, proteins_of, groups_from, protein_list}

-- f of each number from lo up to hi
pub record Replaced (f : ℕ → ℕ) (old new : List ℕ) (lo hi : ℕ) : Type 0 where
  pub same_length : length new ≡ length old
  pub inside : (i : ℕ) → lo ≤ i → i < hi → get_or new i 0 ≡ f (get_or old i 0)
  pub rest : Framed lo hi old new

-- the proteins of the digests from lo up to hi, sorted by name
pub record RunListed (names bytes old new : List ℕ) (lo hi n : ℕ) : Type 0 where
  pub same_length : length new ≡ length old
  pub proteins : slice lo hi new ≡ proteins_of names (map (digest_at bytes) (slice lo hi old))
  pub ahead : (i : ℕ) → hi ≤ i → i < n → get_or new i 0 ≡ get_or old i 0
  pub rest : Framed lo (2 * n) old new

-- numbers of digests stand from lo up to n
pub record DigestsReady (bytes : List ℕ) (n lo : ℕ) (w : List ℕ) : Type 0 where
  pub whole : length bytes ≡ 20 * n
  pub few : n ≤ 1048576
  pub fits : 2 * n ≤ length w
  pub numbers : (i : ℕ) → lo ≤ i → i < n → get_or w i 0 < n

-- the order of the numbers
abbrev pub digest_order : List ℕ → ℕ → List ℕ → ℕ → ℕ → Bool
digest_order letters n w = le_by (Spelled n) letters (drop (2 * n) w)

-- the digests of the runs from lo on
abbrev pub runs_from : List ℕ → List ℕ → ℕ → List ℕ → ℕ → List (List (List ℕ))
runs_from letters bytes n w lo = map (map (digest_at bytes)) (runs_of (digest_order letters n w) (slice lo n w))

-- the run from lo on, which ends at hi, became group g
pub record RunGrouped (names letters bytes : List ℕ) (n lo : ℕ) (w groups : List ℕ) (g hi : ℕ) (w' groups' : List ℕ) : Type 0 where
  pub ends : hi ≡ lo + run_length (digest_order letters n w) (slice lo n w)
  pub group : groups' ≡ stored 28 1048576 groups g (digest_at bytes (get_or w lo 0) ++ le 4 lo ++ le 4 (hi - lo))
  pub list : RunListed names bytes w w' lo hi n

-- what is still to come from lo and g on gives all
pub record RunsAhead (names letters bytes : List ℕ) (n : ℕ) (w₀ groups₀ : List ℕ) (lo g : ℕ) (w groups : List ℕ) : Type 0 where
  pub ready : DigestsReady bytes n lo w
  pub low : lo ≤ n
  pub few : g ≤ lo
  pub same_length : length w ≡ length w₀
  pub same-groups : length groups ≡ length groups₀
  pub keys : drop (2 * n) w ≡ drop (2 * n) w₀
  pub stores : stored_from 28 1048576 groups g (groups_from lo (runs_from letters bytes n w lo)) ≡ stored_from 28 1048576 groups₀ 0 (groups_from 0 (runs_from letters bytes n w₀ 0))
  pub lists : take lo w ++ protein_list names (runs_from letters bytes n w lo) ≡ protein_list names (runs_from letters bytes n w₀ 0)
  pub count : g + length (runs_from letters bytes n w lo) ≡ length (runs_from letters bytes n w₀ 0)

-- all runs became count groups
pub record RunsGathered (names letters bytes : List ℕ) (n : ℕ) (w groups : List ℕ) (count : ℕ) (w' groups' : List ℕ) : Type 0 where
  pub same_length : length w' ≡ length w
  pub stores : groups' ≡ stored_from 28 1048576 groups 0 (groups_from 0 (runs_from letters bytes n w 0))
  pub lists : take n w' ≡ protein_list names (runs_from letters bytes n w 0)
  pub number : count ≡ length (runs_from letters bytes n w 0)
  pub few : count ≤ n

-- the numbers of all digests stand sorted: their runs are the gathered digests
pub record DigestsSorted (bounds letters bytes : List ℕ) (n : ℕ) (w : List ℕ) : Type 0 where
  pub ready : DigestsReady bytes n 0 w
  pub runs : runs_from letters bytes n w 0 ≡ gathered bounds letters (digests_in bytes)
