-- Lemmas of the theorems: what stands in a list and how often, what `first_ones` and `distinct` hold, and where members and edges come
-- from. Assumes nothing.
use Rattle.std.specs.Prelude.{◌≡◌, Bool, true, false, cond, ◌&&◌, ◌||◌, ◌⊎◌, length, replicate}
use Rattle.std.proofs.Math.Path.{refl, ap}
use Rattle.std.proofs.Common.{sym, ◌∙◌, subst, inl, inr, zero-add, arith}
use Rattle.std.proofs.Math.Logic.{⊎_elim}
use mathlib.Core.List.{List, [], ◌∷◌, ◌++◌, flatten, map}
use Prim.Native.Nat.{ℕ, zero, suc, ◌+◌, ◌*◌, ◌/◌, ◌%◌, ◌≤◌, ◌<◌}
use borrow.Author.Tests.{ltb-true, lt-ltb, eqb-true, eqb-false, eq-eqb, ne_eqb}
use Rattle.std.proofs.Math.Dec.{eqb}
use Rattle.std.proofs.Math.ListN.{get_or, get_or-eq_default}
use Rattle.sorting_spec.specs.RunLaws.{length-numbers}
use Rattle.lists.specs.KeepLaws.{count-times}
use Rattle.lists.specs.InLaws.{in_left, in_right, in_append, in_keep, keep_in, in_map, map_in, in-get_or, get_or_in, is_in, in_some, some_in, occurs_in, in_occurs, in_times, times_in, count_in, in_count}
use Rattle.lists.specs.Tests.{below?, clash, iff}
use Rattle.lists.specs.Lists.{In, up_from, keep, same, bit, count, All, occurs, times}
use Rattle.lists.specs.RowLaws.{in_up, up_in}
use Rattle.lists.specs.SameLaws.{same_refl, same-eq}
use Rattle.lists.specs.FirstLaws.{first_at, first_ones, place_lt, occurs_append, times_append, place_at, get_or_place}
use Rattle.sorting_spec.specs.Sort.{sorted}
use Rattle.sorting_spec.specs.SortLaws.{in_sorted, sorted_in, count-sorted}
use Rattle.sorting_spec.specs.Lex.{lex_le}
use Rattle.sorting_spec.specs.Runs.{run_numbers}
use Rattle.sorting_spec.specs.Distinct.{once_after, once, distinct}
use Rattle.cover_spec.specs.Cover.{Edge}
use Rattle.protein_groups_members.specs.Members.{Member}
use Rattle.protein_groups_members.specs.MemberLaws.{Ranged}
use Rattle.protein_groups_spec.specs.ProteinGroups.{Pair, pairs_of, paired, taking, up, list_from, edges_from}
use Rattle.protein_groups_spec.specs.PackedGroups.{packed_shown, packed_seen, packed_proteins, packed_metas, packed_evidence, lists, packed_member, packed_members, packed_groups, packed_grouping}
use Rattle.protein_groups_spec.specs.Standing.{PairsFit, standing, seen_as}
use Rattle.protein_groups_spec.specs.LeaderLaws.{walk_by, runs_tagged, gathered_walk, distinct_in, le_texts}

-- at the places of a list
pub count_places : (t : ℕ → Bool) (at : ℕ → ℕ) (a : ℕ) (l : List ℕ) → ((i : ℕ) → i < length l → at (a + i) ≡ get_or l i 0) → count (λ k. t (at k)) (up_from a (length l)) ≡ count t l
count_places t at a [] h = refl
count_places t at a (x ∷ xs) h =
    let e : a + 0 ≡ a = omega arith in
    let k : at a ≡ x = ap at (sym e) ∙ h 0 (omega arith) in
    rw (k, count_places t at (suc a) xs (λ i q. let z : suc a + i ≡ a + suc i = omega arith in ap at z ∙ h (suc i) (omega arith)))

-- one member for each thing walked over
pub count_walk : {A : Type 0} (f : ℕ → ℕ → A) (t : A → Bool) (u : ℕ → Bool) → ((g k : ℕ) → t (f g k) ≡ u k) → (gs xs : List ℕ) → length gs ≡ length xs
    → count t (walk_by f gs xs) ≡ count u xs
count_walk f t u h [] [] e = refl
count_walk f t u h [] (x ∷ xs) e = absurd (omega arith)
count_walk f t u h (g ∷ gs) [] e = absurd (omega arith)
count_walk f t u h (g ∷ gs) (x ∷ xs) e = rw (h g x, count_walk f t u h gs xs (omega arith))

-- ---- each number once

-- c stands once in f where it stands in it
abbrev Single : ℕ → List ℕ → Type 0
Single c f = times c f ≡ bit (occurs c f)

-- after x is seen c stands once in what is found, where it stood in it or is x
single_next : (c x : ℕ) (f : List ℕ) → Single c f → Single c (cond (occurs x f) f (f ++ (x ∷ []))) × (occurs c (cond (occurs x f) f (f ++ (x ∷ []))) ≡ (occurs c f || eqb x c))
single_next c x f s = go (occurs x f) (eqb x c) (occurs c f) refl refl refl
  where
    go : (t u v : Bool) → occurs x f ≡ t → eqb x c ≡ u → occurs c f ≡ v → Single c (cond t f (f ++ (x ∷ []))) × (occurs c (cond t f (f ++ (x ∷ []))) ≡ (v || u))
    go true u true p q r = (s, r)
    go true false false p q r = (s, r)
    go true true false p q r = let z : x ≡ c = eqb-true x c q in clash (rw z at p) r
    go false false v p q r =
        let n : times c (x ∷ []) ≡ 0 = rw q in
        let m : occurs c (f ++ (x ∷ [])) ≡ (v || false) = occurs_append c f (x ∷ []) ∙ rw (q, r) in
        (times_append c f (x ∷ []) ∙ rw (n, s, m, r) (bits v), m)
      where
        bits : (v : Bool) → bit v + 0 ≡ bit (v || false)
        bits true = refl
        bits false = refl
    go false true true p q r = let z : x ≡ c = eqb-true x c q in clash (rw (sym z) at r) p
    go false true false p q r =
        let n : times c (x ∷ []) ≡ 1 = rw q in
        let m : occurs c (f ++ (x ∷ [])) ≡ true = occurs_append c f (x ∷ []) ∙ rw (q, r) in
        (times_append c f (x ∷ []) ∙ rw (n, s, m, r), m)

pub single_firsts : (c : ℕ) (f l : List ℕ) → Single c f → times c (first_ones f l) ≡ bit (occurs c f || occurs c l)
single_firsts c f [] s = s ∙ go (occurs c f)
  where
    go : (v : Bool) → bit v ≡ bit (v || false)
    go true = refl
    go false = refl
single_firsts c f (x ∷ xs) s =
    let n = single_next c x f s in
    single_firsts c (cond (occurs x f) f (f ++ (x ∷ []))) xs n.0 ∙ rw n.1 (go (occurs c f) (eqb x c))
  where
    go : (v u : Bool) → bit ((v || u) || occurs c xs) ≡ bit (v || cond u true (occurs c xs))
    go true u = refl
    go false true = refl
    go false false = refl

pub firsts_in : (x : ℕ) (f l : List ℕ) → In x (first_ones f l) → In x f ⊎ In x l
firsts_in x f [] h = inl h
firsts_in x f (y ∷ ys) h = ⊎_elim (λ i. go (occurs y f) i) (λ i. inr (inr i)) (firsts_in x (cond (occurs y f) f (f ++ (y ∷ []))) ys h)
  where
    last : In x f ⊎ In x (y ∷ []) → In x f ⊎ In x (y ∷ ys)
    last (inl i) = inl i
    last (inr (inl e)) = inr (inl e)
    last (inr (inr k)) = absurd k

    go : (t : Bool) → In x (cond t f (f ++ (y ∷ []))) → In x f ⊎ In x (y ∷ ys)
    go true i = inl i
    go false i = last (in_append x f (y ∷ []) i)

-- ---- what the pairs show

module _ (flags : List ℕ) (qs : List Pair) where
  pub shown_in : (x a n : ℕ) → In x (flatten (map (packed_shown flags qs) (up_from a n))) → (q : Pair) × In q qs × (x ≡ packed_seen flags q) × (q.peptide < a + n)
  unfolding flatten
  shown_in x a zero h = absurd h
  shown_in x a (suc n) h = ⊎_elim here (λ i. let (q, j, e, l) = shown_in x (suc a) n i in (q, j, e, omega arith)) (in_append x (packed_shown flags qs a) (flatten (map (packed_shown flags qs) (up_from (suc a) n))) h)
    where
      here : In x (packed_shown flags qs a) → (q : Pair) × In q qs × (x ≡ packed_seen flags q) × (q.peptide < a + suc n)
      here i =
          let (q, j, e) = map_in (packed_seen flags) x (pairs_of qs a) i in
          let k = keep_in q (λ (q : Pair). eqb q.peptide a) qs j in
          let z : q.peptide ≡ a = eqb-true q.peptide a k.1 in
          (q, k.0, e, omega arith)

  pub in_shown : (q : Pair) (a n : ℕ) → In q qs → a ≤ q.peptide → q.peptide < a + n → In (packed_seen flags q) (flatten (map (packed_shown flags qs) (up_from a n)))
  unfolding flatten
  in_shown q a zero i l h = absurd (omega arith)
  in_shown q a (suc n) i l h = go (eqb q.peptide a) refl (in_shown q (suc a) n i)
    where
      after : (q.peptide ≡ a → ⊥) → suc a ≤ q.peptide
      after d = ⊎_elim (λ (z : a < q.peptide). omega arith) (λ (z : q.peptide ≤ a). absurd (d (omega arith))) (below? a q.peptide)

      go : (t : Bool) → eqb q.peptide a ≡ t → (suc a ≤ q.peptide → q.peptide < suc a + n → In (packed_seen flags q) (flatten (map (packed_shown flags qs) (up_from (suc a) n))))
          → In (packed_seen flags q) (packed_shown flags qs a ++ flatten (map (packed_shown flags qs) (up_from (suc a) n)))
      go true e r = in_left (packed_seen flags q) (packed_shown flags qs a) (flatten (map (packed_shown flags qs) (up_from (suc a) n))) (in_map (packed_seen flags) q (pairs_of qs a) (in_keep q (λ (q : Pair). eqb q.peptide a) qs i e))
      go false e r =
          in_right (packed_seen flags q) (packed_shown flags qs a) (flatten (map (packed_shown flags qs) (up_from (suc a) n)))
          (r (after (eqb-false q.peptide a e)) (omega arith))

-- ---- a number seen as protein and flag

-- a protein's number twice, and its flag
pub halves_pack : (x p f : ℕ) → f ≤ 1 → (eqb (x / 2) p && eqb (x % 2) f) ≡ eqb x (p * 2 + f)
halves_pack x p f h = go (eqb (x / 2) p) (eqb (x % 2) f) refl refl
  where
    go : (t u : Bool) → eqb (x / 2) p ≡ t → eqb (x % 2) f ≡ u → (t && u) ≡ eqb x (p * 2 + f)
    go true true a b = sym (eq-eqb x (p * 2 + f) (omega (arith, eqb-true (x / 2) p a, eqb-true (x % 2) f b)))
    go true false a b = sym (ne_eqb x (p * 2 + f) (λ z. eqb-false (x % 2) f b (omega arith)))
    go false u a b = sym (ne_eqb x (p * 2 + f) (λ z. eqb-false (x / 2) p a (omega arith)))

pub flag_le : (flags : List ℕ) → ((i : ℕ) → i < length flags → get_or flags i 0 ≤ 1) → (i : ℕ) → get_or flags i 0 ≤ 1
flag_le flags h i =
    ⊎_elim (λ (l : i < length flags). h i l) (λ (l : length flags ≤ i). let e : get_or flags i 0 ≡ 0 = get_or-eq_default flags 0 l in omega arith) (below? i (length flags))

-- the protein and the flag of what is seen
pub seen_is : (flags : List ℕ) → ((i : ℕ) → i < length flags → get_or flags i 0 ≤ 1) → (q : Pair) (p x : ℕ) → q.peptide ≡ p → x ≡ packed_seen flags q
    → (x / 2 ≡ q.protein) × (x % 2 ≡ get_or flags p 0)
seen_is flags h q p x e z =
    let l : get_or flags q.peptide 0 ≤ 1 = flag_le flags h q.peptide in
    let y : x % 2 ≡ get_or flags q.peptide 0 = omega arith in
    (omega arith, y ∙ ap (λ (i : ℕ). get_or flags i 0) e)

-- ---- a number's place, and how often it stands

-- ---- the distinct of some lists

in_once-after : (d l : List ℕ) (ms : List (List ℕ)) → In d ms → (d ≡ l) ⊎ In d (once_after l ms)
in_once-after d l [] h = absurd h
in_once-after d l (m ∷ ms) h = go (same m l) refl h (in_once-after d m ms)
  where
    first : (t : Bool) → same m l ≡ t → d ≡ m → (d ≡ l) ⊎ In d (cond t (once_after m ms) (m ∷ once_after m ms))
    first true q e = inl (e ∙ same-eq m l q)
    first false q e = inr (inl e)

    later : (t : Bool) → In d (once_after m ms) → (d ≡ l) ⊎ In d (cond t (once_after m ms) (m ∷ once_after m ms))
    later true i = inr i
    later false i = inr (inr i)

    go : (t : Bool) → same m l ≡ t → (d ≡ m) ⊎ In d ms → (In d ms → (d ≡ m) ⊎ In d (once_after m ms)) → (d ≡ l) ⊎ In d (cond t (once_after m ms) (m ∷ once_after m ms))
    go t q (inl e) r = first t q e
    go t q (inr k) r = ⊎_elim (first t q) (later t) (r k)

pub in_distinct : (d : List ℕ) (ls : List (List ℕ)) → In d ls → In d (distinct ls)
in_distinct d ls h = go (sorted lex_le ls) (in_sorted lex_le d ls h)
  where
    go : (ms : List (List ℕ)) → In d ms → In d (once ms)
    go [] h = h
    go (m ∷ ms) (inl e) = inl e
    go (m ∷ ms) (inr k) = in_once-after d m ms k

-- ---- a protein's list of meta-peptides

pub replicate_in : (x n m : ℕ) → In x (replicate n m) → (x ≡ m) × (0 < n)
replicate_in x zero m h = absurd h
replicate_in x (suc n) m (inl e) = (e, omega arith)
replicate_in x (suc n) m (inr k) = ((replicate_in x n m k).0, omega arith)

in_replicate : (n m : ℕ) → 0 < n → In m (replicate n m)
in_replicate zero m h = absurd (omega arith)
in_replicate (suc n) m h = inl refl

-- x is the number of a meta-peptide in which k stands
pub list_in : (x m : ℕ) (es : List (List ℕ)) (k : ℕ) → In x (list_from m es k) → (i : ℕ) × (i < length es) × (x ≡ m + i) × In k (get_or es i [])
list_in x m [] k h = absurd h
list_in x m (e ∷ es) k h =
    ⊎_elim (λ i. let (z, l) = replicate_in x (times k e) m i in (0, omega arith, omega arith, times_in k e l))
    (λ i. let (j, l, z, r) = list_in x (suc m) es k i in (suc j, omega arith, omega arith, r)) (in_append x (replicate (times k e) m) (list_from (suc m) es k) h)

pub in_list : (m i : ℕ) (es : List (List ℕ)) (k : ℕ) → i < length es → In k (get_or es i []) → In (m + i) (list_from m es k)
in_list m i [] k l h = absurd (omega arith)
in_list m zero (e ∷ es) k l h =
    let z : m + 0 ≡ m = omega arith in
    rw z (in_left m (replicate (times k e) m) (list_from (suc m) es k) (in_replicate (times k e) m (in_times k e h)))
in_list m (suc i) (e ∷ es) k l h =
    let z : m + suc i ≡ suc m + i = omega arith in
    rw z (in_right (suc m + i) (replicate (times k e) m) (list_from (suc m) es k) (in_list (suc m) i es k (omega arith) h))

-- ---- edges, and members

pub edge_in : (e : Edge) (g : ℕ) (ls : List (List ℕ)) → In e (edges_from g ls) → (i : ℕ) × (i < length ls) × (e.0 ≡ g + i) × In e.1 (get_or ls i [])
edge_in e g [] h = absurd h
edge_in e g (l ∷ ls) h =
    ⊎_elim (λ i. let (m, j, z) = map_in (λ (m : ℕ). (g, m)) e l i in let x : e.0 ≡ g = ap (λ (d : Edge). d.0) z in (0, omega arith, omega arith, is_in {k = l} (sym (ap (λ (d : Edge). d.1) z)) refl j))
    (λ i. let (j, b, z, c) = edge_in e (suc g) ls i in (suc j, omega arith, omega arith, c)) (in_append e (map (λ (m : ℕ). (g, m)) l) (edges_from (suc g) ls) h)

pub in_edge : (x g i : ℕ) (ls : List (List ℕ)) → i < length ls → In x (get_or ls i []) → In (g + i, x) (edges_from g ls)
in_edge x g i [] l h = absurd (omega arith)
in_edge x g zero (k ∷ ls) l h =
    let z : g + 0 ≡ g = omega arith in
    rw z (in_left (g, x) (map (λ (m : ℕ). (g, m)) k) (edges_from (suc g) ls) (in_map (λ (m : ℕ). (g, m)) x k h))
in_edge x g (suc i) (k ∷ ls) l h =
    let z : g + suc i ≡ suc g + i = omega arith in
    rw z (in_right (suc g + i, x) (map (λ (m : ℕ). (g, m)) k) (edges_from (suc g) ls) (in_edge x (suc g) i ls (omega arith) h))

module _ (ps : List ℕ) (ms : List (List ℕ)) where
  -- the places whose list is l
  abbrev having : List ℕ → List ℕ
  having l = keep (λ (k : ℕ). same (list_from 0 ms k) l) (up_from 0 (length ps))

  pub member_in : (m : Member) (g : ℕ) (ls : List (List ℕ)) → In m (packed_members ps ms g ls)
      → (i : ℕ) × (i < length ls) × ((k : ℕ) × (k < length ps) × (list_from 0 ms k ≡ get_or ls i []) × (m ≡ packed_member ps (g + i) k))
  member_in m g [] h = absurd h
  member_in m g (l ∷ ls) h =
      ⊎_elim here (λ i. later (member_in m (suc g) ls i)) (in_append m (map (packed_member ps g) (having l)) (packed_members ps ms (suc g) ls) h)
    where
      here : In m (map (packed_member ps g) (having l)) → (i : ℕ) × (i < suc (length ls)) × ((k : ℕ) × (k < length ps) × (list_from 0 ms k ≡ get_or (l ∷ ls) i []) × (m ≡ packed_member ps (g + i) k))
      here i =
          let (k, j, z) = map_in (packed_member ps g) m (having l) i in
          let (u, s) = keep_in k (λ (k : ℕ). same (list_from 0 ms k) l) (up_from 0 (length ps)) j in
          let v = up_in k 0 (length ps) u in
          let y : g ≡ g + 0 = omega arith in
          (0, omega arith, (k, omega arith, same-eq (list_from 0 ms k) l s, z ∙ ap (λ (n : ℕ). packed_member ps n k) y))

      later : (i : ℕ) × (i < length ls) × ((k : ℕ) × (k < length ps) × (list_from 0 ms k ≡ get_or ls i []) × (m ≡ packed_member ps (suc g + i) k))
          → (i : ℕ) × (i < suc (length ls)) × ((k : ℕ) × (k < length ps) × (list_from 0 ms k ≡ get_or (l ∷ ls) i []) × (m ≡ packed_member ps (g + i) k))
      later r =
          let (i, b, (k, c, e, z)) = r in
          let y : suc g + i ≡ g + suc i = omega arith in
          (suc i, omega arith, (k, c, e, z ∙ ap (λ (n : ℕ). packed_member ps n k) y))

  -- the members are what is gathered for each list
  pub members_tagged : (g : ℕ) (ls : List (List ℕ)) → packed_members ps ms g ls ≡ runs_tagged (packed_member ps) g (map (λ l. keep (λ k. same (list_from 0 ms k) l) (up_from 0 (length ps))) ls)
  members_tagged g [] = refl
  members_tagged g (l ∷ ls) = ap (λ (s : List Member). map (packed_member ps g) (having l) ++ s) (members_tagged (suc g) ls)

  pub in_member : (k g i : ℕ) (ls : List (List ℕ)) → k < length ps → i < length ls → list_from 0 ms k ≡ get_or ls i [] → In (packed_member ps (g + i) k) (packed_members ps ms g ls)
  in_member k g i [] b l h = absurd (omega arith)
  in_member k g zero (d ∷ ls) b l h =
      let z : g + 0 ≡ g = omega arith in
      let s : same (list_from 0 ms k) d ≡ true = rw h (same_refl d) in
      let j : In k (having d) = in_keep k (λ (k : ℕ). same (list_from 0 ms k) d) (up_from 0 (length ps)) (in_up k 0 (length ps) (omega arith) (omega arith)) s in
      rw z (in_left (packed_member ps g k) (map (packed_member ps g) (having d)) (packed_members ps ms (suc g) ls) (in_map (packed_member ps g) k (having d) j))
  in_member k g (suc i) (d ∷ ls) b l h =
      let z : g + suc i ≡ suc g + i = omega arith in
      rw z (in_right (packed_member ps (suc g + i) k) (map (packed_member ps g) (having d)) (packed_members ps ms (suc g) ls) (in_member k (suc g) i ls b (omega arith) h))

-- ---- the grouping

pub edge_counts : (p : Edge → Bool) (e : Edge) (l : List Edge) → In e l → p e ≡ true → 0 < count p l
edge_counts p e [] h k = absurd h
edge_counts p e (d ∷ l) (inl z) k = let j : p d ≡ true = ap p (sym z) ∙ k in rw j (omega arith)
edge_counts p e (d ∷ l) (inr i) k = omega (arith, edge_counts p e l i k)

pub edge_find : (p : Edge → Bool) (l : List Edge) → 0 < count p l → (e : Edge) × In e l × (p e ≡ true)
edge_find p [] h = absurd (omega arith)
edge_find p (d ∷ l) h = go (p d) refl h (edge_find p l)
  where
    go : (t : Bool) → p d ≡ t → 0 < bit t + count p l → (0 < count p l → (e : Edge) × In e l × (p e ≡ true)) → (e : Edge) × In e (d ∷ l) × (p e ≡ true)
    go true z h r = (d, inl refl, z)
    go false z h r = let (e, i, q) = r (omega arith) in (e, inr i, q)

pub all_edges : (P : Edge → Type 0) (l : List Edge) → ((e : Edge) → In e l → P e) → All P l
all_edges P [] h = tt
all_edges P (e ∷ l) h = (h e (inl refl), all_edges P l (λ d i. h d (inr i)))

module _ (flags : List ℕ) (peptides : ℕ) (qs : List Pair) where
  abbrev all : List ℕ
  all = flatten (map (packed_shown flags qs) (up_from 0 peptides))

  abbrev ps : List ℕ
  ps = packed_proteins flags peptides qs

  abbrev ms : List (List ℕ)
  ms = packed_metas (packed_proteins flags peptides qs) flags peptides qs

  abbrev ls : List (List ℕ)
  ls = distinct (lists (packed_metas (packed_proteins flags peptides qs) flags peptides qs) (length (packed_proteins flags peptides qs)))

  -- the numbers found: those seen, each once
  found_times : (x : ℕ) → times x ps ≡ bit (occurs x all)
  unfolding packed_proteins
  found_times x = single_firsts x [] all refl

  found_in : (x : ℕ) → In x ps → In x all
  unfolding packed_proteins
  found_in x h = ⊎_elim (λ (i : In x []). absurd i) (λ i. i) (firsts_in x [] all h)

  pub in_found : (x : ℕ) → In x all → In x ps
  in_found x h = let e : times x ps ≡ 1 = found_times x ∙ rw (in_occurs x all h) in times_in x ps (omega arith)

  pub found_once : (x : ℕ) → times x ps ≤ 1
  found_once x = rw (found_times x) (go (occurs x all))
    where
      go : (t : Bool) → bit t ≤ 1
      go true = omega arith
      go false = omega arith

  pub place_in_found : (k : ℕ) → k < length ps → first_at (get_or ps k 0) ps ≡ k
  place_in_found k h = place_at ps k h (found_once (get_or ps k 0))

  pub member_seen : (k : ℕ) → k < length ps → (q : Pair) × In q qs × (get_or ps k 0 ≡ packed_seen flags q)
  member_seen k h = let (q, i, e, l) = shown_in flags qs (get_or ps k 0) 0 peptides (found_in (get_or ps k 0) (in-get_or 0 ps k h)) in (q, i, e)

  -- a pair's protein stands in the evidence of its peptide
  own : (q : Pair) (p : ℕ) → In q qs → q.peptide ≡ p → In q (pairs_of qs p)
  own q p i z = in_keep q (λ (r : Pair). eqb r.peptide p) qs i (eq-eqb q.peptide p z)

  in_evidence : (q : Pair) (p : ℕ) → In q qs → q.peptide ≡ p → In (first_at (packed_seen flags q) ps) (packed_evidence ps flags qs p)
  in_evidence q p i z =
      in_sorted up (first_at (packed_seen flags q) ps) (map (λ (k : ℕ). first_at k ps) (packed_shown flags qs p))
      (in_map (λ (k : ℕ). first_at k ps) (packed_seen flags q) (packed_shown flags qs p) (in_map (packed_seen flags) q (pairs_of qs p) (own q p i z)))

  -- each protein found has a meta-peptide
  has-meta : (q : Pair) → In q qs → q.peptide < 0 + peptides → In (packed_evidence ps flags qs q.peptide) ms
  unfolding packed_metas
  has-meta q i l =
      in_distinct (packed_evidence ps flags qs q.peptide) (map (packed_evidence ps flags qs) (taking peptides qs))
      (in_map (packed_evidence ps flags qs) q.peptide (taking peptides qs)
      (in_keep q.peptide (paired qs) (up_from 0 peptides) (in_up q.peptide 0 peptides (omega arith) l) (lt-ltb 0 (length (pairs_of qs q.peptide)) (in_some q (pairs_of qs q.peptide) (own q q.peptide i refl)))))

  pub some-meta : (k : ℕ) → k < length ps → (m : ℕ) × In m (list_from 0 ms k)
  some-meta k h =
      let (q, i, e, l) = shown_in flags qs (get_or ps k 0) 0 peptides (found_in (get_or ps k 0) (in-get_or 0 ps k h)) in
      let (m, b, s) = get_or_in [] (packed_evidence ps flags qs q.peptide) ms (has-meta q i l) in
      (0 + m, in_list 0 m ms k b (is_in (ap (λ (x : ℕ). first_at x ps) (sym e) ∙ place_in_found k h) (sym s) (in_evidence q q.peptide i refl)))

  -- each meta-peptide is one of a protein found
  pub meta-has : (m : ℕ) → m < length ms → (p : ℕ) × In p (taking peptides qs) × (get_or ms m [] ≡ packed_evidence ps flags qs p)
  unfolding packed_metas
  meta-has m h = map_in (packed_evidence ps flags qs) (get_or ms m []) (taking peptides qs) (distinct_in (get_or ms m []) (map (packed_evidence ps flags qs) (taking peptides qs)) (in-get_or [] ms m h))

  pub taking-has : (p : ℕ) → In p (taking peptides qs) → (q : Pair) × In q qs × (q.peptide ≡ p) × (p < peptides)
  taking-has p i =
      let (j, t) = keep_in p (paired qs) (up_from 0 peptides) i in
      let (q, r) = some_in (pairs_of qs p) (ltb-true 0 (length (pairs_of qs p)) t) in
      let (s, y) = keep_in q (λ (r : Pair). eqb r.peptide p) qs r in
      let u = up_in p 0 peptides j in
      (q, s, eqb-true q.peptide p y, omega arith)

  pub some-protein : (m : ℕ) → m < length ms → (k : ℕ) × (k < length ps) × In m (list_from 0 ms k)
  some-protein m h =
      let (p, i, e) = meta-has m h in
      let (q, s, z, u) = taking-has p i in
      let k : ℕ = first_at (packed_seen flags q) ps in
      let f : In (packed_seen flags q) ps = in_found (packed_seen flags q) (in_shown flags qs q 0 peptides s (omega arith) (omega arith)) in
      (k, place_lt (packed_seen flags q) ps (in_occurs (packed_seen flags q) ps f), subst (λ (x : ℕ). In x (list_from 0 ms k)) (zero-add m) (in_list 0 m ms k h (is_in refl (sym e) (in_evidence q p s z))))

  -- the list of a protein found is a group's
  pub list_group : (k : ℕ) → k < length ps → (g : ℕ) × (g < length ls) × (get_or ls g [] ≡ list_from 0 ms k)
  list_group k h = get_or_in [] (list_from 0 ms k) ls (in_distinct (list_from 0 ms k) (lists ms (length ps)) (in_map (list_from 0 ms) k (up_from 0 (length ps)) (in_up k 0 (length ps) (omega arith) (omega arith))))

  -- a group's list is one of a protein found
  pub group_list : (g : ℕ) → g < length ls → (k : ℕ) × (k < length ps) × (list_from 0 ms k ≡ get_or ls g [])
  group_list g h =
      let (k, i, e) = map_in (list_from 0 ms) (get_or ls g []) (up_from 0 (length ps)) (distinct_in (get_or ls g []) (lists ms (length ps)) (in-get_or [] ls g h)) in
      let u = up_in k 0 (length ps) i in
      (k, omega arith, sym e)

  -- what stands in an evidence is the number of a pair's protein
  evidence_in : (k p : ℕ) → In k (packed_evidence ps flags qs p) → (r : Pair) × In r qs × (r.peptide ≡ p) × (k ≡ first_at (packed_seen flags r) ps)
  evidence_in k p h =
      let (x, i, e) = map_in (λ (y : ℕ). first_at y ps) k (packed_shown flags qs p) (sorted_in up k (map (λ (y : ℕ). first_at y ps) (packed_shown flags qs p)) h) in
      let (r, j, z) = map_in (packed_seen flags) x (pairs_of qs p) i in
      let (u, y) = keep_in r (λ (q : Pair). eqb q.peptide p) qs j in
      (r, u, eqb-true r.peptide p y, e ∙ ap (λ (y : ℕ). first_at y ps) z)

  pub own-meta : (q : Pair) → In q qs → q.peptide < peptides → (m : ℕ) × (m < length ms) × (get_or ms m [] ≡ packed_evidence ps flags qs q.peptide)
  own-meta q i l = get_or_in [] (packed_evidence ps flags qs q.peptide) ms (has-meta q i (omega arith))

  -- a group with a peptide's meta-peptide has one of its proteins
  pub reached-by_list : (g m p : ℕ) → p < peptides → g < length ls → get_or ms m [] ≡ packed_evidence ps flags qs p → In m (get_or ls g [])
      → (r : Pair) × In r qs × (r.peptide ≡ p) × ((k : ℕ) × (k < length ps) × (list_from 0 ms k ≡ get_or ls g []) × (get_or ps k 0 ≡ packed_seen flags r))
  reached-by_list g m p l h e i =
      let (k, b, y) = group_list g h in
      let (n, c, x, j) = list_in m 0 ms k (is_in refl (sym y) i) in
      let z : n ≡ m = omega arith in
      let (r, u, v, w) = evidence_in k p (is_in refl (ap (λ (o : ℕ). get_or ms o []) z ∙ e) j) in
      let f : In (packed_seen flags r) ps = in_found (packed_seen flags r) (in_shown flags qs r 0 peptides u (omega arith) (omega arith)) in
      (r, u, v, (k, b, y, ap (λ (o : ℕ). get_or ps o 0) w ∙ get_or_place (packed_seen flags r) ps f))

  -- a protein and flag stand in as many members as their number in what is found
  pub standing-times : (p f : ℕ) → f ≤ 1 → standing p f (packed_grouping flags peptides qs).members ≡ times (p * 2 + f) ps
  unfolding packed_grouping packed_groups
  standing-times p f h =
      ap (standing p f) (members_tagged ps ms 0 ls ∙ gathered_walk list (packed_member ps) (up_from 0 (length ps)))
      ∙ count_walk (packed_member ps) (λ (m : Member). eqb m.protein p && eqb m.decoy f) hit (λ g k. halves_pack (get_or ps k 0) p f h) (run_numbers (le_texts list) order) order (length-numbers (le_texts list) order)
      ∙ count-sorted hit (le_texts list) (up_from 0 (length ps))
      ∙ count_places (λ x. eqb x (p * 2 + f)) (λ k. get_or ps k 0) 0 ps (λ i l. ap (λ (k : ℕ). get_or ps k 0) (zero-add i))
      ∙ count-times (p * 2 + f) ps
    where
      list : ℕ → List ℕ
      list = list_from 0 ms

      hit : ℕ → Bool
      hit k = eqb (get_or ps k 0) (p * 2 + f)

      order : List ℕ
      order = sorted (le_texts list) (up_from 0 (length ps))

  module _ (fit : PairsFit flags peptides qs) where
    -- a pair is of protein p and flag f where what is seen is their number
    pub pair_is : (q : Pair) (p f : ℕ) → f ≤ 1 → (eqb q.protein p && eqb (get_or flags q.peptide 0) f) ≡ eqb (packed_seen flags q) (p * 2 + f)
    pair_is q p f h =
        let (a, b) = seen_is flags fit.flag q q.peptide (packed_seen flags q) refl refl in
        rw (a, b) at (halves_pack (packed_seen flags q) p f h)

    seen_all : (p f : ℕ) → f ≤ 1 → occurs (p * 2 + f) all ≡ seen_as flags qs p f
    seen_all p f h = iff (occurs (p * 2 + f) all) (seen_as flags qs p f) to from
      where
        test : Pair → Bool
        test q = eqb q.protein p && eqb (get_or flags q.peptide 0) f

        to : occurs (p * 2 + f) all ≡ true → seen_as flags qs p f ≡ true
        to e =
            let (q, i, z, l) = shown_in flags qs (p * 2 + f) 0 peptides (occurs_in (p * 2 + f) all e) in
            lt-ltb 0 (count test qs) (count_in test q qs i (pair_is q p f h ∙ eq-eqb (packed_seen flags q) (p * 2 + f) (sym z)))

        from : seen_as flags qs p f ≡ true → occurs (p * 2 + f) all ≡ true
        from e =
            let (q, i, z) = in_count test qs (ltb-true 0 (count test qs) e) in
            let s : packed_seen flags q ≡ p * 2 + f = eqb-true (packed_seen flags q) (p * 2 + f) (sym (pair_is q p f h) ∙ z) in
            let l : q.peptide < 0 + peptides = omega (arith, fit.below q i) in
            in_occurs (p * 2 + f) all (rw s at (in_shown flags qs q 0 peptides i (omega arith) l))

    pub times-seen : (p f : ℕ) → f ≤ 1 → times (p * 2 + f) ps ≡ bit (seen_as flags qs p f)
    times-seen p f h = found_times (p * 2 + f) ∙ ap bit (seen_all p f h)

    -- the protein of a place is a pair's
    pub protein-seen : (k : ℕ) → k < length ps → (q : Pair) × In q qs × (get_or ps k 0 / 2 ≡ q.protein)
    protein-seen k h =
        let (q, i, e) = member_seen k h in
        (q, i, (seen_is flags fit.flag q q.peptide (get_or ps k 0) refl e).0)

-- what holds of each member holds of all
pub all_members : (groups n : ℕ) (l : List Member) → ((m : Member) → In m l → (m.group < groups) × (m.protein < n) × (m.decoy ≤ 1)) → Ranged groups n l
all_members groups n [] h = tt
all_members groups n (m ∷ l) h = (h m (inl refl), all_members groups n l (λ k i. h k (inr i)))
