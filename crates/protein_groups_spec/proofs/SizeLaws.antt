-- How large a grouping can be: no more groups and members than proteins seen, no more meta-peptides than peptides, no more edges than
-- pairs. Assumes nothing.
use Rattle.std.specs.Prelude.{◌≡◌, refl, Bool, true, false, cond, List, [], ◌∷◌, map, ℕ, zero, suc, ◌+◌, ◌≤◌, ◌<◌, eqb, get_or}
use Rattle.std.proofs.Common.{sym, ◌∙◌}
use Rattle.std.proofs.Math.Path.{ap}
use native.Mathlib.Omega.{arith}
use Rattle.std.proofs.Math.ListN.{length, length-map}
use Rattle.sorting_spec.specs.RunLaws.{length-numbers}
use Rattle.lists.specs.Lists.{In, up_from, keep, same, times}
use Rattle.lists.specs.RowLaws.{length_up}
use Rattle.lists.specs.FirstLaws.{first_at, at_most}
use Rattle.lists.specs.KeyLaws.{of_key, below, below_suc, below_most, under_of}
use Rattle.lists.specs.TotalLaws.{total-keep}
use Rattle.sorting_spec.specs.Sort.{sorted}
use Rattle.sorting_spec.specs.SortLaws.{total-sorted, length-sorted}
use Rattle.sorting_spec.specs.Lex.{lex_le}
use Rattle.sorting_spec.specs.Runs.{run_numbers}
use Rattle.sorting_spec.specs.Distinct.{once_after, once, distinct}
use Rattle.cover_spec.specs.Cover.{Edge}
use Rattle.protein_groups_spec.specs.ProteinGroups.{Pair, pairs_of, paired, taking, up, list_from, edges_from, Groups}
use Rattle.protein_groups_spec.specs.PackedGroups.{packed_seen, packed_shown, packed_proteins, packed_evidence, packed_metas, lists, packed_member, packed_groups, packed_grouping}
use Rattle.protein_groups_spec.specs.CountingLaws.{metas_in, groups_in, list_chosen}
use Rattle.protein_groups_spec.specs.LeaderLaws.{le_texts, texts_length, spread_most, edges_spread}
use Rattle.protein_groups_spec.specs.ReadingLaws.{read_walk}
use Rattle.protein_groups_spec.specs.WholeLaws.{peptides_of, times_pairs, whole-packed}
use Rattle.protein_groups_spec.proofs.TheoremLaws.{found_once, member_seen}

-- ---- what is left of a list is no longer than it

few_kept : (t : ℕ → Bool) (a n : ℕ) → length (keep t (up_from a n)) ≤ n
few_kept t a zero = omega arith
few_kept t a (suc n) = go (t a) (few_kept t (suc a) n)
  where
    go : (b : Bool) → length (keep t (up_from (suc a) n)) ≤ n → length (cond b (a ∷ keep t (up_from (suc a) n)) (keep t (up_from (suc a) n))) ≤ suc n
    go true h = omega arith
    go false h = omega arith

few_distinct : (ls : List (List ℕ)) → length (distinct ls) ≤ length ls
few_distinct ls = omega (arith, first (sorted lex_le ls), length-sorted lex_le ls)
  where
    later : (l : List ℕ) (ms : List (List ℕ)) → length (once_after l ms) ≤ length ms
    later l [] = omega arith
    later l (m ∷ ms) = go (same m l) (later m ms)
      where
        go : (b : Bool) → length (once_after m ms) ≤ length ms → length (cond b (once_after m ms) (m ∷ once_after m ms)) ≤ suc (length ms)
        go true h = omega arith
        go false h = omega arith

    first : (ms : List (List ℕ)) → length (once ms) ≤ length ms
    first [] = omega arith
    first (m ∷ ms) = omega (arith, later m ms)

few_chosen : (k : ℕ) (ks vs : List ℕ) → length (of_key k ks vs) ≤ times k ks
few_chosen k [] vs = omega arith
few_chosen k (x ∷ xs) [] = omega arith
few_chosen k (x ∷ xs) (v ∷ vs) = go (eqb x k) (few_chosen k xs vs)
  where
    go : (b : Bool) → length (of_key k xs vs) ≤ times k xs → length (cond b (v ∷ of_key k xs vs) (of_key k xs vs)) ≤ cond b (suc (times k xs)) (times k xs)
    go true h = omega arith
    go false h = omega arith

-- texts that are each no longer than a key stands in ks are together no longer than ks
module _ (text : ℕ → List ℕ) (ks : List ℕ) (each : (k : ℕ) → length (text k) ≤ times k ks) where
  total-below : (a n : ℕ) → texts_length text (up_from a n) + below a ks ≤ below (a + n) ks
  total-below a zero = let z : a + 0 ≡ a = omega arith in rw z (omega arith)
  total-below a (suc n) = let z : a + suc n ≡ suc a + n = omega arith in rw z (omega (arith, each a, below_suc a ks, total-below (suc a) n))

  total_most : (n : ℕ) → texts_length text (up_from 0 n) ≤ length ks
  total_most n = omega (arith, total-below 0 n, below_most (0 + n) ks)

-- the distinct texts spread out are no more than all texts
few_spread : (text : ℕ → List ℕ) (ns : List ℕ) → length (edges_from 0 (distinct (map text ns))) ≤ texts_length text ns
few_spread text ns =
    rw (edges_spread text ns)
    (omega (arith, spread_most text 0 (run_numbers (le_texts text) (sorted (le_texts text) ns)) (sorted (le_texts text) ns), total-sorted (λ (n : ℕ). length (text n)) (le_texts text) ns))

-- ---- the grouping

module _ (flags : List ℕ) (peptides : ℕ) (qs : List Pair) where
  abbrev G : Groups
  G = packed_grouping flags peptides qs

  abbrev ps : List ℕ
  ps = packed_proteins flags peptides qs

  abbrev ms : List (List ℕ)
  ms = packed_metas (packed_proteins flags peptides qs) flags peptides qs

  few_found : (n : ℕ) → ((q : Pair) → In q qs → packed_seen flags q < n) → length ps ≤ n
  few_found n b =
      at_most n ps (record {
        under = under_of n ps (λ i h. let (q, j, e) = member_seen flags peptides qs i h in rw e (b q j));
        single = found_once flags peptides qs;
      })

  pub few_groups : (n : ℕ) → ((q : Pair) → In q qs → packed_seen flags q < n) → G.groups ≤ n
  unfolding packed_grouping packed_groups
  few_groups n b = omega (arith, few_found n b, few_distinct (lists ms (length ps)), length-map (up_from 0 (length ps)) (list_from 0 ms), length_up 0 (length ps))

  -- the proteins by their lists, and the numbers of their groups
  abbrev order : List ℕ
  order = sorted (le_texts (list_from 0 ms)) (up_from 0 (length ps))

  abbrev numbers : List ℕ
  numbers = run_numbers (le_texts (list_from 0 ms)) order

  pub few_members : (n : ℕ) → ((q : Pair) → In q qs → packed_seen flags q < n) → length G.members ≤ n
  unfolding packed_grouping
  few_members n b =
      let same : length numbers ≡ length order = length-numbers (le_texts (list_from 0 ms)) order in
      let long : length order ≡ length ps = length-sorted (le_texts (list_from 0 ms)) (up_from 0 (length ps)) ∙ length_up 0 (length ps) in
      let walked : length G.members ≡ length numbers =
      ap (λ (g : Groups). length g.members) (whole-packed ps ms (list_from 0 ms) (λ k h. refl))
      ∙ ap length (sym (read_walk (packed_member ps) numbers order same))
      ∙ length-map (up_from 0 (length numbers)) (λ (i : ℕ). packed_member ps (get_or numbers i 0) (get_or order i 0))
      ∙ length_up 0 (length numbers) in
      omega (arith, few_found n b)

  pub few_metas : G.metas ≤ peptides
  unfolding packed_grouping packed_groups packed_metas
  few_metas = omega (arith, few_distinct (map (packed_evidence ps flags qs) (taking peptides qs)), length-map (taking peptides qs) (packed_evidence ps flags qs), few_kept (paired qs) 0 peptides)

  long_evidence : (p : ℕ) → length (packed_evidence ps flags qs p) ≤ times p (peptides_of qs)
  long_evidence p =
      omega (arith, length-sorted up (map (λ (k : ℕ). first_at k ps) (packed_shown flags qs p)), length-map (packed_shown flags qs p) (λ (k : ℕ). first_at k ps), length-map (pairs_of qs p) (packed_seen flags), times_pairs qs p)

  long_list : (k : ℕ) → length (list_from 0 ms k) ≤ times k (metas_in (edges_from 0 ms))
  long_list k = rw (list_chosen k 0 ms) (few_chosen k (metas_in (edges_from 0 ms)) (groups_in (edges_from 0 ms)))

  few_entries : length (edges_from 0 ms) ≤ length qs
  unfolding packed_metas
  few_entries =
      omega (
        arith,
        few_spread (packed_evidence ps flags qs) (taking peptides qs),
        total-keep (λ (p : ℕ). length (packed_evidence ps flags qs p)) (paired qs) (up_from 0 peptides),
        total_most (packed_evidence ps flags qs) (peptides_of qs) long_evidence peptides,
        length-map qs (λ (q : Pair). q.peptide),
      )

  pub few_edges : length G.edges ≤ length qs
  unfolding packed_grouping packed_groups
  few_edges =
      omega (
        arith,
        few_entries,
        few_spread (list_from 0 ms) (up_from 0 (length ps)),
        total_most (list_from 0 ms) (metas_in (edges_from 0 ms)) long_list (length ps),
        length-map (edges_from 0 ms) (λ (e : Edge). e.1),
      )
