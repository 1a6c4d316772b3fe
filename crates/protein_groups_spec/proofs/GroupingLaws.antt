-- What follows from the rules of the grouping, of packed numbers; Theorems of protein_groups says it of a call that passes its tests.
-- Assumes nothing.
use Rattle.std.specs.Prelude.{◌≡◌, ◌&&◌, ◌↔◌, List, [], ℕ, ◌+◌, ◌/◌, ◌%◌, ◌≤◌, ◌<◌, ltb, length}
use Rattle.std.proofs.Math.Path.{refl, sym, ap}
use Rattle.std.proofs.Common.{◌∙◌, ⊎_elim, zero-add, ltb-true, eqb-true, eq-eqb}
use Rattle.std.proofs.Math.Bool.{Bool}
use native.Mathlib.Omega.{arith}
use Rattle.std.proofs.Math.Dec.{eqb}
use Rattle.std.proofs.Math.ListN.{get_or}
use Rattle.lists.specs.Tests.{below?, both}
use Rattle.lists.specs.Lists.{In, bit, count, All}
use Rattle.lists.specs.KeepLaws.{all_map}
use Rattle.lists.specs.InLaws.{count_in, none-count, is_in}
use Rattle.sorting_spec.specs.Distinct.{distinct}
use Rattle.cover_spec.specs.Cover.{Edge, group, meta, of_group, of_meta, cover}
use Rattle.cover_spec.proofs.ChoiceLaws.{GroupsUnder}
use Rattle.cover_spec.proofs.CoverLaws.{neighbour}
use Rattle.protein_groups_members.specs.Members.{Member}
use Rattle.protein_groups_spec.specs.ProteinGroups.{Pair, Groups, edges_from}
use Rattle.protein_groups_spec.specs.PackedGroups.{packed_proteins, packed_metas, lists, packed_member, packed_members, packed_groups, packed_grouping}
use Rattle.protein_groups_spec.specs.Standing.{PairsFit, standing, members_of, seen_as, showing, Reached}
use Rattle.protein_groups_spec.proofs.TheoremLaws.{flag_le, seen_is, edge_counts, edge_find, all_edges, list_in, edge_in, in_edge, member_in, in_member, some-meta, some-protein, list_group, group_list, standing-times, times-seen, protein-seen, own-meta, reached-by_list}
use Rattle.protein_groups_spec.proofs.AlikeLaws.{distinct-at, list_showing, showing_list}

module _ (flags : List ℕ) (peptides : ℕ) (qs : List Pair) where
  abbrev G : Groups
  G = packed_grouping flags peptides qs

  -- its proteins, its meta-peptides and the lists of its groups
  abbrev ps : List ℕ
  ps = packed_proteins flags peptides qs

  abbrev ms : List (List ℕ)
  ms = packed_metas (packed_proteins flags peptides qs) flags peptides qs

  abbrev ls : List (List ℕ)
  ls = distinct (lists (packed_metas (packed_proteins flags peptides qs) flags peptides qs) (length (packed_proteins flags peptides qs)))

  flag_low : (m : Member) → In m G.members → m.decoy ≤ 1
  unfolding packed_grouping packed_groups
  flag_low m h =
      let (g, c, (k, l, d, e)) = member_in ps ms m 0 ls h in
      let x : m.decoy ≡ get_or ps k 0 % 2 = ap (λ (n : Member). n.decoy) e in
      omega arith

  -- A protein seen from peptides of a flag stands in exactly one group, in one record; one that is not so seen stands in none.
  pub one-group : PairsFit flags peptides qs → (p f : ℕ) → standing p f G.members ≡ bit (seen_as flags qs p f)
  one-group fit p f =
      ⊎_elim (λ (h : f < 2). standing-times flags peptides qs p f (omega arith) ∙ times-seen flags peptides qs fit p f (omega arith))
      (λ (h : 2 ≤ f).
      none-count (λ (m : Member). eqb m.protein p && eqb m.decoy f) G.members
      (λ m i e. omega (arith, flag_low m i, eqb-true m.decoy f (both (eqb m.protein p) (eqb m.decoy f) e).1))
      ∙ sym (ap (λ (n : ℕ). bit (ltb 0 n))
      (none-count (λ (q : Pair). eqb q.protein p && eqb (get_or flags q.peptide 0) f) qs
      (λ q i e. omega (arith, flag_le flags fit.flag q.peptide, eqb-true (get_or flags q.peptide 0) f (both (eqb q.protein p) (eqb (get_or flags q.peptide 0) f) e).1)))))
      (below? f 2)

  -- Two members stand in one group exactly where each peptide shows them equally often.
  pub alike-together : PairsFit flags peptides qs → (m n : Member) → In m G.members → In n G.members
      → (m.group ≡ n.group) ↔ ((p : ℕ) → p < peptides → showing flags qs p m ≡ showing flags qs p n)
  unfolding packed_grouping packed_groups
  alike-together fit m n i j =
      let (g, a, (k, b, c, d)) = member_in ps ms m 0 ls i in
      let (h, e, (l, o, q, r)) = member_in ps ms n 0 ls j in
      let x : m.group ≡ 0 + g = ap (λ (z : Member). z.group) d in
      let y : n.group ≡ 0 + h = ap (λ (z : Member). z.group) r in (
        λ s. let t : g ≡ h = omega arith in list_showing flags peptides qs fit m n (0 + g) (0 + h) k l d r b o (c ∙ ap (λ (z : ℕ). get_or ls z []) t ∙ sym q),
        λ s. let t : g ≡ h = distinct-at (lists ms (length ps)) g h a e (sym c ∙ showing_list flags peptides qs fit m n (0 + g) (0 + h) k l d r b o s ∙ q) in omega arith,
      )

  -- A member's fields are in range.
  pub members_below : PairsFit flags peptides qs → (n : ℕ) → ((q : Pair) → In q qs → q.protein < n)
      → (m : Member) → In m G.members → (m.group < G.groups) × (m.protein < n) × (m.decoy ≤ 1)
  unfolding packed_grouping packed_groups
  members_below fit n b m h =
      let (g, c, (k, l, d, e)) = member_in ps ms m 0 ls h in
      let (q, i, z) = protein-seen flags peptides qs fit k l in
      let y : m.protein ≡ get_or ps k 0 / 2 = ap (λ (n : Member). n.protein) e in
      let w : m.group ≡ 0 + g = ap (λ (n : Member). n.group) e in
      (omega arith, omega (arith, b q i), flag_low m h)

  -- An edge's fields are in range.
  pub edges-below : (e : Edge) → In e G.edges → (group e < G.groups) × (meta e < G.metas)
  unfolding packed_grouping packed_groups
  edges-below e h =
      let (g, l, z, i) = edge_in e 0 ls h in
      let (k, b, y) = group_list flags peptides qs g l in
      let (m, c, x, j) = list_in e.1 0 ms k (is_in refl (sym y) i) in
      (omega arith, omega arith)

  -- The same, as the laws of the cover ask it.
  pub edges_ranged : All (λ e. (group e < G.groups) × (meta e < G.metas)) G.edges
  edges_ranged = all_edges (λ e. (group e < G.groups) × (meta e < G.metas)) G.edges edges-below

  -- A group has a member, and an edge.
  pub no_empty-group : (g : ℕ) → g < G.groups → (0 < members_of g G.members) × (0 < of_group g G.edges)
  unfolding packed_grouping packed_groups
  no_empty-group g h =
      let (k, l, e) = group_list flags peptides qs g h in
      let (m, i) = some-meta flags peptides qs k l in (
        count_in (λ (m : Member). eqb m.group g) (packed_member ps (0 + g) k) (packed_members ps ms 0 ls) (in_member ps ms k 0 g ls l h e) (eq-eqb (0 + g) g (zero-add g)),
        edge_counts (λ d. eqb (group d) g) (0 + g, m) (edges_from 0 ls) (in_edge m 0 g ls h (is_in refl e i)) (eq-eqb (0 + g) g (zero-add g)),
      )

  -- A meta-peptide has an edge.
  pub no_empty-meta : (m : ℕ) → m < G.metas → 0 < of_meta m G.edges
  unfolding packed_grouping packed_groups
  no_empty-meta m h =
      let (k, l, i) = some-protein flags peptides qs m h in
      let (g, b, e) = list_group flags peptides qs k l in
      edge_counts (λ d. eqb (meta d) m) (0 + g, m) (edges_from 0 ls) (in_edge m 0 g ls b (is_in refl (sym e) i)) (eq-eqb m m refl)

  -- The cover of the edges marks for each peptide that has a pair a group with one of its proteins, seen with its flag.
  pub each_peptide_reached : PairsFit flags peptides qs → (q : Pair) → In q qs → Reached flags qs G q.peptide
  unfolding packed_grouping packed_groups
  each_peptide_reached fit q i =
      let (m, l, e) = own-meta flags peptides qs q i (fit.below q i) in
      let under : GroupsUnder (length ls) (edges_from 0 ls) = all_map (λ d j. j.0) (edges_from 0 ls) edges_ranged in
      let t : Edge → Bool = λ d. eqb (meta d) m && cover (length ls) (edges_from 0 ls) (group d) in
      let (d, j, y) = edge_find t (edges_from 0 ls) (ltb-true 0 (count t (edges_from 0 ls)) (neighbour (length ls) (edges_from 0 ls) under m (no_empty-meta m l))) in
      let (z, c) = both (eqb (meta d) m) (cover (length ls) (edges_from 0 ls) (group d)) y in
      let (g, b, x, v) = edge_in d 0 ls j in
      let (r, u, o, (k, a, w, s)) = reached-by_list flags peptides qs g m q.peptide (fit.below q i) b e (is_in {k = get_or ls g []} (eqb-true (meta d) m z) refl v) in
      let f = seen_is flags fit.flag r q.peptide (get_or ps k 0) o s in
      record {
        member = packed_member ps (0 + g) k;
        stands = in_member ps ms k 0 g ls a b w;
        marked = ap (cover (length ls) (edges_from 0 ls)) (sym x) ∙ c;
        pair = r;
        given = u;
        own = o;
        protein = f.0;
        flag = f.1;
      }
