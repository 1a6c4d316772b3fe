-- Where flags are 0 or 1, the grouping of packed numbers is the grouping. Assumes nothing.
use Rattle.std.specs.Prelude.{◌≡◌, Bool, true, false, cond, ◌||◌, eqb, get_or}
use Rattle.std.proofs.Math.Path.{refl, ap}
use Rattle.std.proofs.Common.{sym, ◌∙◌, zero-add, arith}
use mathlib.Core.List.{List, [], ◌∷◌, ◌++◌, flatten, map, map-map, map-append}
use Prim.Native.Nat.{ℕ, zero, suc, ◌+◌, ◌*◌, ◌/◌, ◌%◌, ◌≤◌, ◌<◌}
use Rattle.std.proofs.Math.ListN.{length}
use Rattle.lists.specs.KeepLaws.{keep-map}
use Rattle.lists.specs.Lists.{up_from, keep, same, occurs}
use Rattle.sorting_spec.specs.Sort.{sorted}
use Rattle.sorting_spec.specs.Distinct.{distinct}
use Rattle.protein_groups_spec.specs.ProteinGroups.{Pair, Seen, seen, alike, among, place, firsts, pairs_of, shown, proteins, taking, up, evidence, metas, list_from, list_of, edges_from, member, members_from, groups_of, grouping}
use Rattle.lists.specs.FirstLaws as first
use Rattle.protein_groups_spec.specs.PackedGroups.{packed_grouping, packed_evidence, packed_groups, packed_member, packed_members, packed_metas, packed_proteins, packed_seen, packed_shown, lists}
use Rattle.protein_groups_spec.proofs.TheoremLaws.{halves_pack, place_in_found}
use Rattle.protein_groups_spec.specs.ReadingLaws.{map_shift}
use Rattle.protein_groups_spec.specs.WholeLaws.{row_alike, same_alike}

-- a packed number taken apart
abbrev unpack : ℕ → Seen
unpack x = record { protein = x / 2; decoy = x % 2 }

-- ---- each once, by first appearance

alike_is : (x y : ℕ) → alike (unpack x) (unpack y) ≡ eqb x y
alike_is x y = let z : y / 2 * 2 + y % 2 ≡ y = omega arith in halves_pack x (y / 2) (y % 2) (omega arith) ∙ ap (eqb x) z

among_is : (k : ℕ) (l : List ℕ) → among (unpack k) (map unpack l) ≡ occurs k l
among_is k [] = refl
among_is k (x ∷ xs) = rw (alike_is x k, among_is k xs) (go (eqb x k))
  where
    go : (t : Bool) → (t || occurs k xs) ≡ cond t true (occurs k xs)
    go true = refl
    go false = refl

place_is : (k : ℕ) (l : List ℕ) → place (unpack k) (map unpack l) ≡ first.first_at k l
place_is k [] = refl
place_is k (x ∷ xs) = rw (alike_is x k, place_is k xs)

firsts_are : (f l : List ℕ) → firsts (map unpack f) (map unpack l) ≡ map unpack (first.first_ones f l)
firsts_are f [] = refl
firsts_are f (k ∷ ks) =
    ap (λ (t : Bool). firsts (cond t (map unpack f) (map unpack f ++ (unpack k ∷ []))) (map unpack ks)) (among_is k f)
    ∙ go (occurs k f) (λ g. firsts_are g ks)
  where
    go : (t : Bool) → ((g : List ℕ) → firsts (map unpack g) (map unpack ks) ≡ map unpack (first.first_ones g ks))
        → firsts (cond t (map unpack f) (map unpack f ++ (unpack k ∷ []))) (map unpack ks) ≡ map unpack (first.first_ones (cond t f (f ++ (k ∷ []))) ks)
    go true r = r f
    go false r = ap (λ (g : List Seen). firsts g (map unpack ks)) (sym (map-append unpack f (k ∷ []))) ∙ r (f ++ (k ∷ []))

-- ---- what the pairs show

module _ (flags : List ℕ) (bits : (i : ℕ) → get_or flags i 0 ≤ 1) (qs : List Pair) where
  seen_is : (q : Pair) → seen flags q ≡ unpack (packed_seen flags q)
  seen_is q =
      let b = bits q.peptide in
      let x : q.protein ≡ packed_seen flags q / 2 = omega arith in
      let y : get_or flags q.peptide 0 ≡ packed_seen flags q % 2 = omega arith in
      λ i. record { protein = x i; decoy = y i }

  shown_are : (p : ℕ) → shown flags qs p ≡ map unpack (packed_shown flags qs p)
  shown_are p = ap (λ (f : Pair → Seen). map f (pairs_of qs p)) (λ i q. seen_is q i) ∙ sym (map-map unpack (packed_seen flags) (pairs_of qs p))

  all_are : (a n : ℕ) → flatten (map (shown flags qs) (up_from a n)) ≡ map unpack (flatten (map (packed_shown flags qs) (up_from a n)))
  unfolding flatten
  all_are a zero = refl
  all_are a (suc n) = rw (shown_are a, all_are (suc a) n) (sym (map-append unpack (packed_shown flags qs a) (flatten (map (packed_shown flags qs) (up_from (suc a) n)))))

  proteins_are : (peptides : ℕ) → proteins flags peptides qs ≡ map unpack (packed_proteins flags peptides qs)
  unfolding proteins packed_proteins
  proteins_are peptides = ap (firsts []) (all_are 0 peptides) ∙ firsts_are [] (flatten (map (packed_shown flags qs) (up_from 0 peptides)))

  evidence_is : (ps : List ℕ) (p : ℕ) → evidence (map unpack ps) flags qs p ≡ packed_evidence ps flags qs p
  evidence_is ps p =
      ap (sorted up)
      (ap (map (λ (s : Seen). place s (map unpack ps))) (shown_are p)
      ∙ map-map (λ (s : Seen). place s (map unpack ps)) unpack (packed_shown flags qs p)
      ∙ ap (λ (f : ℕ → ℕ). map f (packed_shown flags qs p)) (λ i k. place_is k ps i))

  metas_are : (ps : List ℕ) (peptides : ℕ) → metas (map unpack ps) flags peptides qs ≡ packed_metas ps flags peptides qs
  unfolding metas packed_metas
  metas_are ps peptides = ap (λ (f : ℕ → List ℕ). distinct (map f (taking peptides qs))) (λ i p. evidence_is ps p i)

-- ---- groups, where each stands at its place

by_place : {B : Type 0} (f : ℕ → B) (l : List ℕ) → map f l ≡ map (λ (k : ℕ). f (get_or l k 0)) (up_from 0 (length l))
by_place f [] = refl
by_place {B} f (x ∷ xs) = ap (λ (l : List B). f x ∷ l) (by_place f xs ∙ sym (map_shift (λ (k : ℕ). f (get_or (x ∷ xs) k 0)) 0 (length xs)))

module _ (ps : List ℕ) (ms : List (List ℕ)) (found : (k : ℕ) → k < length ps → first.first_at (get_or ps k 0) ps ≡ k) where
  abbrev at : ℕ → Seen
  at k = unpack (get_or ps k 0)

  list_is : (k : ℕ) → k < 0 + length ps → list_of (map unpack ps) ms (at k) ≡ list_from 0 ms k
  list_is k h = ap (list_from 0 ms) (place_is (get_or ps k 0) ps ∙ found k (rw zero-add at h))

  lists_are : map (list_of (map unpack ps) ms) (map unpack ps) ≡ lists ms (length ps)
  lists_are =
      ap (map (list_of (map unpack ps) ms)) (by_place unpack ps)
      ∙ map-map (list_of (map unpack ps) ms) at (up_from 0 (length ps))
      ∙ row_alike (λ (k : ℕ). list_of (map unpack ps) ms (at k)) (list_from 0 ms) 0 (length ps) list_is

  group_is : (g : ℕ) (l : List ℕ)
      → map (member g) (keep (λ (s : Seen). same (list_of (map unpack ps) ms s) l) (map unpack ps)) ≡ map (packed_member ps g) (keep (λ (k : ℕ). same (list_from 0 ms k) l) (up_from 0 (length ps)))
  group_is g l =
      ap (λ (z : List Seen). map (member g) (keep (λ (s : Seen). same (list_of (map unpack ps) ms s) l) z)) (by_place unpack ps)
      ∙ ap (map (member g)) (keep-map at (λ (s : Seen). same (list_of (map unpack ps) ms s) l) (up_from 0 (length ps)))
      ∙ map-map (member g) at (keep (λ (k : ℕ). same (list_of (map unpack ps) ms (at k)) l) (up_from 0 (length ps)))
      ∙ ap (map (packed_member ps g)) (same_alike (λ (k : ℕ). list_of (map unpack ps) ms (at k)) (list_from 0 ms) l 0 (length ps) list_is)

  members_are : (g : ℕ) (ls : List (List ℕ)) → members_from (map unpack ps) ms g ls ≡ packed_members ps ms g ls
  members_are g [] = refl
  members_are g (l ∷ ls) = rw (group_is g l, members_are (suc g) ls)

  groups_are : groups_of (map unpack ps) ms ≡ packed_groups ps ms
  unfolding groups_of packed_groups
  groups_are =
      ap (λ (ls : List (List ℕ)). record { edges = edges_from 0 (distinct ls); members = members_from (map unpack ps) ms 0 (distinct ls); groups = length (distinct ls); metas = length ms }) lists_are
      ∙ rw (members_are 0 (distinct (lists ms (length ps))))

-- THE LAW
pub packed-grouping : (flags : List ℕ) (peptides : ℕ) (qs : List Pair) → ((i : ℕ) → get_or flags i 0 ≤ 1) → grouping flags peptides qs ≡ packed_grouping flags peptides qs
unfolding grouping packed_grouping
packed-grouping flags peptides qs bits =
    ap (λ (z : List Seen). groups_of z (metas z flags peptides qs)) (proteins_are flags bits qs peptides)
    ∙ ap (groups_of (map unpack ps)) (metas_are flags bits qs ps peptides)
    ∙ groups_are ps (packed_metas ps flags peptides qs) (place_in_found flags peptides qs)
  where
    ps : List ℕ
    ps = packed_proteins flags peptides qs
