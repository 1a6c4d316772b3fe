-- Where pairs stand in the work memory. The public statement does not cite this.
use Rattle.std.specs.Prelude.{ℕ, ◌+◌, ◌<◌, ◌≡◌, List, length, get_or}
use Rattle.lists.specs.FrameLaws.{Framed}
use Rattle.protein_groups_spec.specs.ProteinGroups.{pair_at}
use Rattle.protein_groups_spec.specs.PackedGroups.{packed_seen}

-- of n pairs the first i: peptides from a on, and what they show behind the n
pub record PairsLaid (pairs flags : List ℕ) (a n i : ℕ) (old new : List ℕ) : Type 0 where
  pub peptides : (j : ℕ) → j < i → get_or new (a + j) 0 ≡ (pair_at pairs j).peptide
  pub shown : (j : ℕ) → j < i → get_or new (a + n + j) 0 ≡ packed_seen flags (pair_at pairs j)
  pub rest : Framed a (a + n + n) old new
  pub same_length : length new ≡ length old
