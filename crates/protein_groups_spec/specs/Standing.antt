-- The words of the theorems on the grouping.
use Rattle.std.specs.Prelude.{ℕ, ◌≡◌, ◌≤◌, ◌<◌, Bool, true, ◌&&◌, List, ltb, eqb, length, get_or}
use Rattle.lists.specs.Lists.{In, count}
use Rattle.cover_spec.specs.Cover.{cover}
use Rattle.protein_groups_members.specs.Members.{Member}
use Rattle.protein_groups_spec.specs.ProteinGroups.{Pair, Groups}

-- what is asked of the lists: flags are 0 or 1, and a pair's peptide is below the number of peptides
pub record PairsFit (flags : List ℕ) (peptides : ℕ) (qs : List Pair) : Type 0 where
  pub flag : (i : ℕ) → i < length flags → get_or flags i 0 ≤ 1
  pub below : (q : Pair) → In q qs → q.peptide < peptides

-- how many members have protein p and flag f
abbrev pub standing : ℕ → ℕ → List Member → ℕ
standing p f ms = count (λ (m : Member). eqb m.protein p && eqb m.decoy f) ms

-- how many members a group has
abbrev pub members_of : ℕ → List Member → ℕ
members_of g ms = count (λ (m : Member). eqb m.group g) ms

-- whether some pair has protein p and a peptide of flag f
abbrev pub seen_as : List ℕ → List Pair → ℕ → ℕ → Bool
seen_as flags qs p f = ltb 0 (count (λ (q : Pair). eqb q.protein p && eqb (get_or flags q.peptide 0) f) qs)

-- how often the pairs of peptide p name a member's protein, seen with its flag
abbrev pub showing : List ℕ → List Pair → ℕ → Member → ℕ
showing flags qs p m = count (λ (q : Pair). eqb q.peptide p && (eqb q.protein m.protein && eqb (get_or flags q.peptide 0) m.decoy)) qs

-- a member of a marked group with one of peptide p's proteins and its flag
pub record Reached (flags : List ℕ) (qs : List Pair) (G : Groups) (p : ℕ) : Type 0 where
  pub member : Member
  pub stands : In member G.members
  pub marked : cover G.groups G.edges member.group ≡ true
  pub pair : Pair
  pub given : In pair qs
  pub own : pair.peptide ≡ p
  pub protein : member.protein ≡ pair.protein
  pub flag : member.decoy ≡ get_or flags p 0
