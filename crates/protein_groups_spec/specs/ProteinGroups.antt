-- Document 01, "Groups and cover": protein grouping, sentence by sentence.
use Rattle.std.specs.Prelude.{ℕ, suc, ◌+◌, ◌*◌, ◌/◌, Bool, false, cond, ◌&&◌, ◌||◌, ltb, eqb, length, get_or, replicate}
use mathlib.Core.List.{List, [], ◌∷◌, ◌++◌, flatten, map}
use Rattle.lists.specs.Lists.{up_from, keep, same, times}
use Rattle.records.specs.Le.{number_at}
use Rattle.sorting_spec.specs.Sort.{sorted}
use Rattle.sorting_spec.specs.Lex.{lex_le}
use Rattle.sorting_spec.specs.Distinct.{distinct}
use Rattle.cover_spec.specs.Cover.{Edge}
use Rattle.protein_groups_members.specs.Members.{Member}

-- a pair, 8 bytes: peptide u32, protein u32
pub record Pair : Type 0 where
  pub peptide : ℕ
  pub protein : ℕ

abbrev pub pair_at : List ℕ → ℕ → Pair
pair_at bytes i = record { peptide = number_at 4 bytes (8 * i); protein = number_at 4 bytes (8 * i + 4) }

abbrev pub pairs_in : List ℕ → List Pair
pairs_in bytes = map (pair_at bytes) (up_from 0 (length bytes / 8))

-- "One seen from a target and a decoy peptide is two": a protein, and the flag of the peptide from which it is seen
pub record Seen : Type 0 where
  pub protein : ℕ
  pub decoy : ℕ

abbrev pub seen : List ℕ → Pair → Seen
seen flags q = record { protein = q.protein; decoy = get_or flags q.peptide 0 }

abbrev pub alike : Seen → Seen → Bool
alike a b = eqb a.protein b.protein && eqb a.decoy b.decoy

-- whether one stands in a list
abbrev pub among : Seen → List Seen → Bool
among s [] = false
among s (x ∷ xs) = alike x s || among s xs

-- where one first stands in a list
abbrev pub place : Seen → List Seen → ℕ
place s [] = 0
place s (x ∷ xs) = cond (alike x s) 0 (suc (place s xs))

-- each once, in the order of first appearance, behind those found before
abbrev pub firsts : List Seen → List Seen → List Seen
firsts found [] = found
firsts found (s ∷ ss) = firsts (cond (among s found) found (found ++ (s ∷ []))) ss

-- a peptide's pairs in record order, and what they show
abbrev pub pairs_of : List Pair → ℕ → List Pair
pairs_of qs p = keep (λ (q : Pair). eqb q.peptide p) qs

abbrev pub shown : List ℕ → List Pair → ℕ → List Seen
shown flags qs p = map (seen flags) (pairs_of qs p)

-- "Peptides go by ascending number, their pairs in record order; proteins are numbered by first appearance." The proteins in that
-- order: a protein's number is its place.
unfoldable pub proteins : List ℕ → ℕ → List Pair → List Seen
unfolding flatten
proteins flags peptides qs = firsts [] (flatten (map (shown flags qs) (up_from 0 peptides)))

-- "Only peptides with a pair take part."
abbrev pub paired : List Pair → ℕ → Bool
paired qs p = ltb 0 (length (pairs_of qs p))

abbrev pub taking : ℕ → List Pair → List ℕ
taking peptides qs = keep (paired qs) (up_from 0 peptides)

-- numbers ascending
abbrev pub up : ℕ → ℕ → Bool
up a b = lex_le (a ∷ []) (b ∷ [])

-- "Each peptide's protein numbers, sorted with repeats, are its evidence"
abbrev pub evidence : List Seen → List ℕ → List Pair → ℕ → List ℕ
evidence ps flags qs p = sorted up (map (λ (s : Seen). place s ps) (shown flags qs p))

-- "distinct evidences in lexicographic order are the meta-peptides."
unfoldable pub metas : List Seen → List ℕ → ℕ → List Pair → List (List ℕ)
metas ps flags peptides qs = distinct (map (evidence ps flags qs) (taking peptides qs))

-- the meta-peptides, the first of which has the number m, that hold the number k, each as often as it holds it
abbrev pub list_from : ℕ → List (List ℕ) → ℕ → List ℕ
list_from m [] k = []
list_from m (e ∷ es) k = replicate (times k e) m ++ list_from (suc m) es k

-- a protein's list of meta-peptides (repeats included)
abbrev pub list_of : List Seen → List (List ℕ) → Seen → List ℕ
list_of ps ms s = list_from 0 ms (place s ps)

-- "the edges, group by group along its list"
abbrev pub edges_from : ℕ → List (List ℕ) → List Edge
edges_from g [] = []
edges_from g (l ∷ ls) = map (λ (m : ℕ). (g, m)) l ++ edges_from (suc g) ls

-- a member, "written with the caller's" number
abbrev pub member : ℕ → Seen → Member
member g s = record { group = g; protein = s.protein; decoy = s.decoy }

-- "Proteins with equal lists of meta-peptides (repeats included) form one group, members by that numbering"
abbrev pub members_from : List Seen → List (List ℕ) → ℕ → List (List ℕ) → List Member
members_from ps ms g [] = []
members_from ps ms g (l ∷ ls) = map (member g) (keep (λ (s : Seen). same (list_of ps ms s) l) ps) ++ members_from ps ms (suc g) ls

pub record Groups : Type 0 where
  pub edges : List Edge
  pub members : List Member
  pub groups : ℕ
  pub metas : ℕ

-- "groups are ordered by those lists"
unfoldable pub groups_of : List Seen → List (List ℕ) → Groups
groups_of ps ms =
    let ls = distinct (map (list_of ps ms) ps) in
    record { edges = edges_from 0 ls; members = members_from ps ms 0 ls; groups = length ls; metas = length ms }

-- of a decoy flag for each peptide, the number of peptides and the pairs
unfoldable pub grouping : List ℕ → ℕ → List Pair → Groups
grouping flags peptides qs =
    let ps = proteins flags peptides qs in
    groups_of ps (metas ps flags peptides qs)
