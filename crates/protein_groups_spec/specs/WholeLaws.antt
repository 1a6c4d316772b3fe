-- The grouping as two sorts by texts, each with its runs, and what is spread and walked along them. Assumes nothing.
use Rattle.std.specs.Prelude.{◌≡◌, refl, Bool, true, false, cond, ℕ, zero, suc, ◌+◌, ◌<◌, ltb, eqb}
use Rattle.std.proofs.Math.Path.{sym, ap}
use Rattle.std.proofs.Common.{◌∙◌, add-one, arith, ltb-true, ltb-false, lt-ltb, le-ltb}
use mathlib.Core.List.{List, [], ◌∷◌, ◌++◌, map}
use Rattle.std.proofs.Math.Nat.{zero-add}
use Rattle.std.proofs.Math.ListN.{length}
use Rattle.lists.specs.Lists.{up_from, keep, same, times}
use Rattle.lists.specs.KeyLaws.{below, below_suc}
use Rattle.sorting_spec.specs.Sort.{sorted}
use Rattle.sorting_spec.specs.Runs.{runs_of}
use Rattle.sorting_spec.specs.Distinct.{distinct}
use Rattle.sorting_spec.specs.DistinctLaws.{count-distinct}
use Rattle.protein_groups_members.specs.Members.{Member}
use Rattle.protein_groups_spec.specs.ProteinGroups.{Pair, pairs_of, taking, paired, list_from, edges_from}
use Rattle.protein_groups_spec.specs.PackedGroups.{packed_proteins, packed_metas, packed_evidence, lists, packed_member, packed_members, packed_groups}
use Rattle.protein_groups_spec.specs.LeaderLaws.{le_texts, spread_sorted, walk_sorted, runs_tagged, edges_spread, gathered_walk}

-- numbers from a up to a + n
pub row_alike : {A : Type 0} (f g : ℕ → A) (a n : ℕ) → ((k : ℕ) → k < a + n → f k ≡ g k) → map f (up_from a n) ≡ map g (up_from a n)
row_alike f g a zero h = refl
row_alike f g a (suc n) h =
    rw (h a (omega arith), row_alike f g (suc a) n (λ k q. h k (omega arith)))

keep-alike : {A : Type 0} (f g : ℕ → A) (p : ℕ → Bool) (a n : ℕ) → ((k : ℕ) → k < a + n → f k ≡ g k) → map f (keep p (up_from a n)) ≡ map g (keep p (up_from a n))
keep-alike f g p a zero h = refl
keep-alike {A} f g p a (suc n) h = go (p a) (keep-alike f g p (suc a) n (λ k q. h k (omega arith)))
  where
    go : (t : Bool) → map f (keep p (up_from (suc a) n)) ≡ map g (keep p (up_from (suc a) n))
        → map f (cond t (a ∷ keep p (up_from (suc a) n)) (keep p (up_from (suc a) n))) ≡ map g (cond t (a ∷ keep p (up_from (suc a) n)) (keep p (up_from (suc a) n)))
    go true r = rw (h a (omega arith), r)
    go false r = r

pub same_alike : (f g : ℕ → List ℕ) (l : List ℕ) (a n : ℕ) → ((k : ℕ) → k < a + n → f k ≡ g k)
    → keep (λ k. same (f k) l) (up_from a n) ≡ keep (λ k. same (g k) l) (up_from a n)
same_alike f g l a zero h = refl
same_alike f g l a (suc n) h = rw (h a (omega arith), same_alike f g l (suc a) n (λ k q. h k (omega arith)))

members_tagged : (text : ℕ → List ℕ) (ps : List ℕ) (ms : List (List ℕ)) (g : ℕ) (ls : List (List ℕ)) → ((k : ℕ) → k < length ps → text k ≡ list_from 0 ms k)
    → packed_members ps ms g ls ≡ runs_tagged (packed_member ps) g (map (λ l. keep (λ k. same (text k) l) (up_from 0 (length ps))) ls)
members_tagged text ps ms g [] h = refl
members_tagged text ps ms g (l ∷ ls) h =
    ap (λ (s : List ℕ). map (packed_member ps g) s ++ packed_members ps ms (suc g) ls) (sym (same_alike text (list_from 0 ms) l 0 (length ps) (λ k q. h k (rw zero-add at q))))
    ∙ ap (λ (s : List Member). map (packed_member ps g) (keep (λ k. same (text k) l) (up_from 0 (length ps))) ++ s) (members_tagged text ps ms (suc g) ls h)

abbrev pub peptides_of : List Pair → List ℕ
peptides_of qs = map (λ (q : Pair). q.peptide) qs

-- as many keys p as pairs of p
pub times_pairs : (qs : List Pair) (p : ℕ) → times p (peptides_of qs) ≡ length (pairs_of qs p)
times_pairs [] p = refl
times_pairs (q ∷ qs) p = go (eqb q.peptide p) (times_pairs qs p)
  where
    go : (t : Bool) → times p (peptides_of qs) ≡ length (pairs_of qs p) → cond t (suc (times p (peptides_of qs))) (times p (peptides_of qs)) ≡ length (cond t (q ∷ pairs_of qs p) (pairs_of qs p))
    go true h = ap suc h
    go false h = h

-- a key has values where its peptide has a pair
has-pair : (qs : List Pair) (p : ℕ) → ltb (below p (peptides_of qs)) (below (p + 1) (peptides_of qs)) ≡ paired qs p
has-pair qs p = go (paired qs p) refl
  where
    more : below (p + 1) (peptides_of qs) ≡ below p (peptides_of qs) + length (pairs_of qs p)
    more = rw (add-one p, below_suc p (peptides_of qs), times_pairs qs p)

    go : (t : Bool) → paired qs p ≡ t → ltb (below p (peptides_of qs)) (below (p + 1) (peptides_of qs)) ≡ t
    go true e = lt-ltb (below p (peptides_of qs)) (below (p + 1) (peptides_of qs)) (omega (arith, more, ltb-true 0 (length (pairs_of qs p)) e))
    go false e = le-ltb (below p (peptides_of qs)) (below (p + 1) (peptides_of qs)) (omega (arith, more, ltb-false 0 (length (pairs_of qs p)) e))

kept-alike : (f g : ℕ → Bool) (a n : ℕ) → ((k : ℕ) → k < a + n → f k ≡ g k) → keep f (up_from a n) ≡ keep g (up_from a n)
kept-alike f g a zero h = refl
kept-alike f g a (suc n) h = rw (h a (omega arith), kept-alike f g (suc a) n (λ k q. h k (omega arith)))

-- a test that tells keys with values tells the peptides that take part
pub taking-by : (f : ℕ → Bool) (peptides : ℕ) (qs : List Pair)
    → ((p : ℕ) → p < peptides → f p ≡ ltb (below p (peptides_of qs)) (below (p + 1) (peptides_of qs))) → keep f (up_from 0 peptides) ≡ taking peptides qs
taking-by f peptides qs h = kept-alike f (paired qs) 0 peptides (λ p q. h p (rw zero-add at q) ∙ has-pair qs p)

-- the meta-peptides, by texts that are the peptides' evidence
module _ (flags : List ℕ) (peptides : ℕ) (qs : List Pair) (text : ℕ → List ℕ) (h : (p : ℕ) → p < peptides → text p ≡ packed_evidence (packed_proteins flags peptides qs) flags qs p) where
  by-text : packed_metas (packed_proteins flags peptides qs) flags peptides qs ≡ distinct (map text (taking peptides qs))
  unfolding packed_metas
  by-text = ap distinct (sym (keep-alike text (packed_evidence (packed_proteins flags peptides qs) flags qs) (paired qs) 0 peptides (λ k q. h k (rw zero-add at q))))

  -- spread out, and how many there are
  pub metas_spread : edges_from 0 (packed_metas (packed_proteins flags peptides qs) flags peptides qs) ≡ spread_sorted text (sorted (le_texts text) (taking peptides qs))
  metas_spread = ap (edges_from 0) by-text ∙ edges_spread text (taking peptides qs)

  pub metas-count : length (packed_metas (packed_proteins flags peptides qs) flags peptides qs) ≡ length (runs_of (le_texts text) (sorted (le_texts text) (taking peptides qs)))
  metas-count = ap length by-text ∙ sym (count-distinct text (taking peptides qs))

-- the groups, by texts that are the proteins' lists of meta-peptides
module _ (ps : List ℕ) (ms : List (List ℕ)) (text : ℕ → List ℕ) (h : (k : ℕ) → k < length ps → text k ≡ list_from 0 ms k) where
  abbrev pub order : List ℕ
  order = sorted (le_texts text) (up_from 0 (length ps))

  lists-text : lists ms (length ps) ≡ map text (up_from 0 (length ps))
  lists-text = sym (row_alike text (list_from 0 ms) 0 (length ps) (λ k q. h k (rw zero-add at q)))

  -- THE ANSWER
  pub whole-packed : packed_groups ps ms ≡ record { edges = spread_sorted text order; members = walk_sorted text (packed_member ps) order; groups = length (runs_of (le_texts text) order); metas = length ms }
  unfolding packed_groups
  whole-packed =
      let e : edges_from 0 (distinct (lists ms (length ps))) ≡ spread_sorted text order = ap (λ (l : List (List ℕ)). edges_from 0 (distinct l)) lists-text ∙ edges_spread text (up_from 0 (length ps)) in
      let m : packed_members ps ms 0 (distinct (lists ms (length ps))) ≡ walk_sorted text (packed_member ps) order =
      members_tagged text ps ms 0 (distinct (lists ms (length ps))) h
      ∙ ap (λ (l : List (List ℕ)). runs_tagged (packed_member ps) 0 (map (λ l. keep (λ k. same (text k) l) (up_from 0 (length ps))) (distinct l))) lists-text
      ∙ gathered_walk text (packed_member ps) (up_from 0 (length ps)) in
      let g : length (distinct (lists ms (length ps))) ≡ length (runs_of (le_texts text) order) = ap (λ (l : List (List ℕ)). length (distinct l)) lists-text ∙ sym (count-distinct text (up_from 0 (length ps))) in
      rw (e, m, g)
