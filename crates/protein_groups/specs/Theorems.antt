-- What a grouping achieves, for every call that passes its tests. Assumes nothing.
use Rattle.std.specs.Prelude.{ℕ, ◌+◌, ◌*◌, ◌/◌, ◌≤◌, ◌<◌, ◌≡◌, ◌↔◌, length}
use Rattle.std.proofs.Common.{◌∙◌, arith}
use mathlib.Core.List.{List, flatten, map}
use Rattle.std.proofs.lemmas.List.{length-map}
use Rattle.protein_groups_tests.specs.Testing.{tested}
use Rattle.protein_groups_tests.specs.TestingLaws.{PairsReady, pairs_ready}
use Rattle.lists.specs.Lists.{In, up_from, bit}
use Rattle.lists.specs.RowLaws.{length_up, up_in}
use Rattle.lists.specs.InLaws.{map_in}
use Rattle.cover_spec.specs.Cover.{Edge, group, meta, of_group, of_meta}
use Rattle.cover_edges.specs.Edges.{edge_bytes, first_bad_edge}
use Rattle.cover_edges.specs.BackLaws.{edges-accepted}
use Rattle.protein_groups_members.specs.Members.{Member, member_bytes, first_bad_member}
use Rattle.protein_groups_members.specs.MemberLaws.{members_accepted}
use Rattle.protein_groups_spec.specs.ProteinGroups.{Pair, pair_at, pairs_in, Groups, grouping}
use Rattle.protein_groups_spec.specs.Standing.{PairsFit, standing, members_of, seen_as, showing, Reached}
use Rattle.protein_groups_spec.specs.PackedGroups.{packed_seen, packed_grouping}
use Rattle.protein_groups_spec.proofs.PackingLaws.{packed-grouping}
use Rattle.protein_groups_spec.proofs.TheoremLaws.{all_members}
use Rattle.protein_groups_spec.proofs.GroupingLaws as laws
use Rattle.protein_groups_spec.proofs.SizeLaws.{few_groups, few_metas, few_edges, few_members}
use Rattle.records.specs.Answers.{Passed}

module _ (pairs flags : List ℕ) (peptides proteins words : ℕ) (p : tested pairs flags peptides proteins words ≡ Passed) where
  -- its pairs, and their grouping
  abbrev qs : List Pair
  qs = pairs_in pairs

  abbrev G : Groups
  G = grouping flags peptides (pairs_in pairs)

  known : PairsReady pairs flags peptides proteins words
  known = pairs_ready pairs flags peptides proteins words p

  inside : (q : Pair) → In q qs → (q.peptide < peptides) × (q.protein < proteins)
  inside q i =
      let (k, j, e) = map_in (pair_at pairs) q (up_from 0 (length pairs / 8)) i in
      let u = up_in k 0 (length pairs / 8) j in
      rw e (known.inside k (omega arith))

  fit : PairsFit flags peptides qs
  fit = record { flag = λ i l. known.bits i; below = λ q i. (inside q i).0 }

  as_packed : grouping flags peptides qs ≡ packed_grouping flags peptides qs
  as_packed = packed-grouping flags peptides qs known.bits

  -- ---- members and edges

  -- A protein seen from peptides of a flag stands in exactly one group, in one record; one that is not so seen stands in none.
  pub one-group : (n f : ℕ) → standing n f G.members ≡ bit (seen_as flags qs n f)
  one-group n f = rw as_packed (laws.one-group flags peptides qs fit n f)

  -- Two members stand in one group exactly where each peptide shows them equally often.
  pub alike-together : (m n : Member) → In m G.members → In n G.members
      → (m.group ≡ n.group) ↔ ((r : ℕ) → r < peptides → showing flags qs r m ≡ showing flags qs r n)
  alike-together m n i j = laws.alike-together flags peptides qs fit m n (rw as_packed at i) (rw as_packed at j)

  -- A member's fields are in range.
  pub members_below : (m : Member) → In m G.members → (m.group < G.groups) × (m.protein < proteins) × (m.decoy ≤ 1)
  members_below m i = rw as_packed (laws.members_below flags peptides qs fit proteins (λ q j. (inside q j).1) m (rw as_packed at i))

  -- An edge's fields are in range.
  pub edges-below : (e : Edge) → In e G.edges → (group e < G.groups) × (meta e < G.metas)
  edges-below e i = rw as_packed (laws.edges-below flags peptides qs e (rw as_packed at i))

  -- ---- sizes

  seen_below : (q : Pair) → In q qs → packed_seen flags q < 2 * proteins
  seen_below q i = omega (arith, (inside q i).1, known.bits q.peptide)

  pairs_count : length qs ≡ length pairs / 8
  pairs_count = length-map (up_from 0 (length pairs / 8)) (pair_at pairs) ∙ length_up 0 (length pairs / 8)

  -- There are no more groups and members than twice the proteins, no more meta-peptides than peptides, no more edges than pairs.
  pub groups_most : G.groups ≤ 2 * proteins
  groups_most = rw as_packed (few_groups flags peptides qs (2 * proteins) seen_below)

  pub members_most : length G.members ≤ 2 * proteins
  members_most = rw as_packed (few_members flags peptides qs (2 * proteins) seen_below)

  pub metas_most : G.metas ≤ peptides
  metas_most = rw as_packed (few_metas flags peptides qs)

  pub edges_most : length G.edges ≤ length pairs / 8
  edges_most = rw as_packed (omega (arith, few_edges flags peptides qs, pairs_count))

  -- So a cover of the edges asks for no more work memory than the grouping did.
  pub work_enough : 4 * G.groups + 4 * G.metas + 6 * length G.edges ≤ words
  work_enough = omega (arith, groups_most, metas_most, edges_most, known.enough)

  -- ---- what is written is accepted where it goes next

  -- None of the member records is bad.
  pub members_good : first_bad_member (flatten (map member_bytes G.members)) G.groups proteins ≡ length G.members
  members_good = members_accepted G.groups proteins (omega (arith, groups_most, known.proteins-max)) (omega (arith, known.proteins-max)) G.members (all_members G.groups proteins G.members members_below)

  -- None of the edge records is bad.
  pub edges_good : first_bad_edge (flatten (map edge_bytes G.edges)) G.groups G.metas ≡ length G.edges
  edges_good = edges-accepted G.groups G.metas (omega (arith, groups_most, known.proteins-max)) (omega (arith, metas_most, known.peptides_max)) G.edges (rw as_packed (laws.edges_ranged flags peptides qs))

  -- ---- nothing is empty

  -- A group has a member, and an edge.
  pub no_empty-group : (g : ℕ) → g < G.groups → (0 < members_of g G.members) × (0 < of_group g G.edges)
  no_empty-group g h = rw as_packed (laws.no_empty-group flags peptides qs g (rw as_packed at h))

  -- A meta-peptide has an edge.
  pub no_empty-meta : (m : ℕ) → m < G.metas → 0 < of_meta m G.edges
  no_empty-meta m h = rw as_packed (laws.no_empty-meta flags peptides qs m (rw as_packed at h))

  -- The cover of the edges marks for each peptide that has a pair a group with one of its proteins, seen with its flag.
  pub each_peptide_reached : (q : Pair) → In q qs → Reached flags qs G q.peptide
  each_peptide_reached q i = rw as_packed (laws.each_peptide_reached flags peptides qs fit q i)
