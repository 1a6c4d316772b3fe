-- Where the grouping of n pairs stands in a lent slice: k is twice the number of proteins, m the number of peptides.
use Rattle.std.specs.Prelude.{◌≡◌, List, ℕ, ◌+◌, ◌*◌, ◌≤◌, ◌<◌, length, get_or}
use Rattle.protein_groups_spec.specs.ProteinGroups.{Pair}
use Rattle.protein_groups_spec.specs.PackedGroups.{packed_grouping}
use Rattle.protein_groups_spec.specs.Rows.{standing_edges, standing_members}
use Rattle.protein_groups_numbering.specs.declared.plan.Plan.{Plan}

-- the pairs' peptides, and behind them what the pairs show; the edges' meta-peptides, and behind them their groups
abbrev pub keys_at : ℕ → ℕ → ℕ → ℕ
keys_at k m n = 4 * k + 3 * m + n + 4

abbrev pub values_at : ℕ → ℕ → ℕ → ℕ
values_at k m n = keys_at k m n + n

-- the tables of the half by peptides, behind the found proteins and their table
abbrev pub peptide_plan : ℕ → ℕ → ℕ → Plan
peptide_plan k m n = record {
  things = 4 * k + 2;
  runs = 4 * k + 2 + m;
  bounds = 4 * k + 2 + 2 * m;
  kinds = m;
  texts = 4 * k + 3 * m + 4;
  keys = keys_at k m n;
  values = values_at k m n;
  count = n;
}

-- those of the half by proteins, of which there are r and t pairs of one with a meta-peptide
abbrev pub protein_plan : ℕ → ℕ → ℕ → ℕ → ℕ → Plan
protein_plan k m n r t = record {
  things = k;
  runs = 2 * k;
  bounds = 3 * k;
  kinds = r;
  texts = 4 * k + 3 * m + 4;
  keys = keys_at k m n;
  values = values_at k m n;
  count = t;
}

-- what is asked: all of it fits, the numbers are in their range, and what stands before the places of the values by key is zero
pub record Placeable (w : List ℕ) (k m n : ℕ) : Type 0 where
  pub fits : values_at k m n + n ≤ length w
  pub few : n ≤ 1048576
  pub proteins : k ≤ 131072
  pub peptides : m ≤ 262144
  pub keys : (i : ℕ) → i < n → get_or w (keys_at k m n + i) 0 < m
  pub values : (i : ℕ) → i < n → get_or w (values_at k m n + i) 0 < k
  pub zeros : (i : ℕ) → i < 4 * k + 3 * m + 4 → get_or w i 0 ≡ 0

-- the grouping of qs
pub record GroupingPlaced (flags : List ℕ) (qs : List Pair) (w : List ℕ) (k m n groups metas edges members : ℕ) : Type 0 where
  pub edges_are : standing_edges w (keys_at k m n) (values_at k m n) edges ≡ (packed_grouping flags m qs).edges
  pub members_are : standing_members w k (2 * k) members ≡ (packed_grouping flags m qs).members
  pub groups_are : groups ≡ (packed_grouping flags m qs).groups
  pub metas_are : metas ≡ (packed_grouping flags m qs).metas

-- what a writer needs
pub record GroupingFits (w : List ℕ) (k n edges members : ℕ) : Type 0 where
  pub few_edges : edges ≤ n
  pub few_members : members ≤ k
  pub shown : (j : ℕ) → j < members → get_or w (k + j) 0 < length w
