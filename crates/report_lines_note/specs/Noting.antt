-- What is noted in a slice: the numbers of a list from 0 on, and from c on the groups that apply.
use Rattle.std.specs.Prelude.{ℕ, ◌+◌, ◌<◌, ◌≡◌, Bool, cond, ◌&&◌, List, map, eqb, get_or}
use Rattle.lists.specs.Lists.{up_from, occurs}
use Rattle.lists.specs.FrameLaws.{Framed}
use Rattle.protein_groups_members.specs.Members.{Member, member_at}
use Rattle.report_lines_spec.specs.Line.{applies}

-- the first i members
abbrev pub first_members : List ℕ → ℕ → List Member
first_members bytes i = map (member_at bytes) (up_from 0 i)

-- w says of each number below c whether it stands in the list; else it is w₀
pub record ListNoted (list w₀ w : List ℕ) (c : ℕ) : Type 0 where
  pub notes : (p : ℕ) → p < c → get_or w p 0 ≡ cond (occurs p list) 1 0
  pub rest : Framed 0 c w₀ w

-- whether a member's group applies by it: the flag is the peptide's, its protein is noted, its group is marked
abbrev pub applies_by : Bool → List ℕ → List ℕ → Member → Bool
applies_by decoy marks w m = eqb m.decoy (cond decoy 1 0) && eqb (get_or w m.protein 0) 1 && eqb (get_or marks m.group 0) 1

-- w says of each of m groups from c on whether it applies; else it is w₀
pub record Flagged (ms : List Member) (marks list : List ℕ) (decoy : Bool) (w₀ w : List ℕ) (c m : ℕ) : Type 0 where
  pub flags : (g : ℕ) → g < m → get_or w (c + g) 0 ≡ cond (applies ms marks list decoy g) 1 0
  pub rest : Framed c (c + m) w₀ w
