-- From placed pairs to what the call leaves. Assumes nothing.
use Rattle.std.specs.Prelude.{ℕ, ◌+◌, ◌*◌, ◌/◌, ◌≤◌, min, ◌≡◌, cond, ◌&&◌, List, [], ◌∷◌, map, length, replicate, leb, Ok, Err}
use Rattle.std.proofs.Common.{◌∙◌, inl, arith}
use Rattle.std.proofs.lemmas.List.{length-map, length-replicate, get_or-replicate}
use Rattle.std.proofs.Math.Seq.{slice}
use Rattle.protein_groups_tests.specs.TestingLaws.{PairsReady}
use Rattle.protein_groups_spec.specs.Rows.{standing_edge, standing_member}
use Rattle.lists.specs.Lists.{up_from}
use Rattle.lists.specs.RowLaws.{length_up}
use Rattle.records.specs.declared.refusal.Refusal.TheVariants.{Room}
use Rattle.records.specs.Outcome.{outcome}
use Rattle.protein_groups_place.specs.Placing.{PairsLaid}
use Rattle.protein_groups_place.specs.PlacingLaws.{laid_peptides, laid_shown}
use Rattle.protein_groups_spec.specs.ProteinGroups.{pair_at, pairs_in, grouping}
use Rattle.protein_groups_spec.specs.PackedGroups.{packed_seen, packed_grouping}
use Rattle.protein_groups_spec.specs.WholeLaws.{peptides_of}
use Rattle.protein_groups_tables.specs.Placed.{keys_at, Placeable, GroupingFits}
use Rattle.protein_groups_spec.proofs.PackingLaws.{packed-grouping}
use Rattle.protein_groups.specs.declared.arranging.Stands.{Stands}
use Rattle.protein_groups.specs.ProteinGrouping.{Grouped, proteins_grouped}
use Rattle.protein_groups.specs.Steps.{Writable, edges_standing, members_standing, Handed}
use Rattle.protein_groups.specs.ProteinGroupingLaws.{left-listed}

-- the pairs stand in w, which was cleared before
abbrev pub PairsStand : List ℕ → List ℕ → ℕ → ℕ → ℕ → List ℕ → Type 0
PairsStand pairs flags peptides proteins words w = PairsLaid pairs flags (keys_at (2 * proteins) peptides (length pairs / 8)) (length pairs / 8) (length pairs / 8) (replicate words 0) w

-- where their grouping stands then
abbrev pub stands_at : ℕ → ℕ → ℕ → ℕ → ℕ → Stands
stands_at k a n e m = record { metas = a; groups = a + n; edges = e; order = k; ranks = 2 * k; members = m }

module _ (pairs flags : List ℕ) (peptides proteins words : ℕ) (r : PairsReady pairs flags peptides proteins words) (some : 8 ≤ length pairs) where
  abbrev n : ℕ
  n = length pairs / 8

  abbrev k : ℕ
  k = 2 * proteins

  abbrev a : ℕ
  a = keys_at (2 * proteins) peptides (length pairs / 8)

  -- the work memory is large enough for the tables, the pairs, and what they show
  pub tables_fit : a + n + n ≤ words
  tables_fit = let h = r.inside 0 (omega arith) in omega (arith, h.0, r.enough)

  pub stands_writable : (w : List ℕ) (e m : ℕ) → GroupingFits w k n e m → Writable (stands_at k a n e m) words
  stands_writable w e m f = record {
    few_edges = omega (arith, f.few_edges, r.few);
    metas = omega (arith, f.few_edges, tables_fit);
    groups = omega (arith, f.few_edges, tables_fit);
    few_members = omega (arith, f.few_members, r.proteins-max);
    order = omega (arith, f.few_members, tables_fit);
    ranks = omega (arith, f.few_members, tables_fit);
  }

  module _ (w : List ℕ) (l : PairsStand pairs flags peptides proteins words w) where
    long : length w ≡ words
    long = l.same_length ∙ length-replicate {A = ℕ} words 0

    pub placeable : Placeable w k peptides n
    placeable = record {
      fits = omega (arith, long, tables_fit);
      few = r.few;
      proteins = omega (arith, r.proteins-max);
      peptides = r.peptides_max;
      keys = λ i h. omega (arith, l.peptides i h, (r.inside i h).0);
      values = λ i h. omega (arith, l.shown i h, (r.inside i h).1, r.bits (pair_at pairs i).peptide);
      zeros = λ i h. l.rest i (inl (omega arith)) ∙ get_or-replicate {A = ℕ} words i 0 0 (omega (arith, tables_fit));
    }

    in_replicate : a + n + n ≤ length {A = ℕ} (replicate words 0)
    in_replicate = rw (length-replicate {A = ℕ} words 0) tables_fit

    pub peptides_stand : slice a (a + n) w ≡ peptides_of (pairs_in pairs)
    peptides_stand = laid_peptides pairs flags a n (replicate words 0) w in_replicate l

    pub shown_stand : slice (a + n) (a + n + n) w ≡ map (packed_seen flags) (pairs_in pairs)
    shown_stand = laid_shown pairs flags a n (replicate words 0) w in_replicate l

-- what was grouped in w is written, and the work memory cleared
pub left-made : (pairs flags : List ℕ) (peptides proteins words : ℕ) → PairsReady pairs flags peptides proteins words
    → (work edges members w w' edges' members' : List ℕ) (s : Stands) (groups metas : ℕ) (r : Grouped)
    → edges_standing s w ≡ (packed_grouping flags peptides (pairs_in pairs)).edges → members_standing s w ≡ (packed_grouping flags peptides (pairs_in pairs)).members
    → groups ≡ (packed_grouping flags peptides (pairs_in pairs)).groups → metas ≡ (packed_grouping flags peptides (pairs_in pairs)).metas
    → Handed w edges members s w' edges' members' → length w ≡ length work
    → r ≡ cond (leb s.edges (min (length edges / 8) 1048576) && leb s.members (min (length members / 12) 131072)) (Ok (record { groups = groups; metas = metas; edges = s.edges; members = s.members })) (Err Room)
    → outcome r (w' ∷ edges' ∷ members' ∷ []) ≡ proteins_grouped (grouping flags peptides (pairs_in pairs)) work edges members
left-made pairs flags peptides proteins words ready work edges members w w' edges' members' s groups metas r p q g m h same answer =
    let x : length (edges_standing s w) ≡ s.edges = length-map (up_from 0 s.edges) (standing_edge w s.metas s.groups) ∙ length_up 0 s.edges in
    let y : length (members_standing s w) ≡ s.members = length-map (up_from 0 s.members) (standing_member w s.order s.ranks) ∙ length_up 0 s.members in
    rw (packed-grouping flags peptides (pairs_in pairs) ready.bits, h.wrote_edges, h.wrote_members, h.cleared, same)
    (left-listed (packed_grouping flags peptides (pairs_in pairs)) work edges members (edges_standing s w) (members_standing s w) groups metas s.edges s.members r p q g m x y answer)
