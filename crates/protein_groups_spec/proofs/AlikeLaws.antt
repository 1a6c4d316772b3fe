-- Which proteins stand in one group: those that each peptide shows equally often. Assumes nothing.
use Rattle.std.specs.Prelude.{◌≡◌, refl, Bool, true, false, cond, ◌&&◌, List, [], ◌∷◌, map, ℕ, zero, suc, ◌+◌, ◌*◌, ◌/◌, ◌%◌, ◌≤◌, ◌<◌, eqb, length, get_or, replicate}
use Rattle.std.proofs.Common.{sym, ap, ◌∙◌, inl, inr, ⊎_elim, arith, eqb-true, eq-eqb}
use Rattle.lists.specs.Tests.{below?, clash, iff}
use Rattle.lists.specs.Lists.{In, same, bit, times, count}
use Rattle.lists.specs.SameLaws.{same_refl}
use Rattle.lists.specs.FirstLaws.{first_at, times_append, get_or_place}
use Rattle.lists.specs.InLaws.{is_in, map_in, keep_in, in-get_or, some_in, times_in}
use Rattle.lists.specs.KeepLaws.{count-times}
use Rattle.sorting_spec.specs.Sort.{sorted}
use Rattle.sorting_spec.specs.SortLaws.{Ordered, sorted_ordered, count-sorted}
use Rattle.sorting_spec.specs.Lex.{lex_le}
use Rattle.sorting_spec.specs.LexLaws.{lex_trans, lex_antisym, lex_refl, by_list}
use Rattle.sorting_spec.specs.Distinct.{once_after, once, distinct}
use Rattle.protein_groups_members.specs.Members.{Member}
use Rattle.protein_groups_spec.specs.ProteinGroups.{Pair, pairs_of, up, list_from}
use Rattle.protein_groups_spec.specs.PackedGroups.{packed_shown, packed_seen, packed_proteins, packed_metas, packed_evidence, packed_member}
use Rattle.protein_groups_spec.specs.Standing.{PairsFit, showing}
use Rattle.protein_groups_spec.proofs.TheoremLaws.{replicate_in, list_in, place_in_found, in_found, in_shown, own-meta, meta-has, taking-has, pair_is}

-- ---- distinct lists rise, so each stands at one place

abbrev Rising : List (List ℕ) → Type 0
Rising [] = Unit {0}
Rising (d ∷ l) = ((e : List ℕ) → In e l → lex_le e d ≡ false) × Rising l

after : (l : List ℕ) (ms : List (List ℕ)) → Ordered lex_le (l ∷ ms) → (d : List ℕ) → In d (once_after l ms) → lex_le d l ≡ false
after l [] o d h = absurd h
after l (m ∷ ms) o d h = go (same m l) refl h (after m ms o.1 d)
  where
    past : lex_le d m ≡ false → (t : Bool) → lex_le d l ≡ t → lex_le d l ≡ false
    past n true e = clash (lex_trans d l m e o.0) n
    past n false e = e

    self : same m l ≡ false → (t : Bool) → lex_le m l ≡ t → lex_le m l ≡ false
    self n true e = let y : m ≡ l = lex_antisym m l e o.0 in let z : same m l ≡ true = rw y (same_refl l) in clash z n
    self n false e = e

    go : (t : Bool) → same m l ≡ t → In d (cond t (once_after m ms) (m ∷ once_after m ms)) → (In d (once_after m ms) → lex_le d m ≡ false) → lex_le d l ≡ false
    go true q i r = past (r i) (lex_le d l) refl
    go false q (inl e) r = ap (λ (x : List ℕ). lex_le x l) e ∙ self q (lex_le m l) refl
    go false q (inr i) r = past (r i) (lex_le d l) refl

rising-after : (l : List ℕ) (ms : List (List ℕ)) → Ordered lex_le (l ∷ ms) → Rising (once_after l ms)
rising-after l [] o = tt
rising-after l (m ∷ ms) o = go (same m l) (after m ms o.1) (rising-after m ms o.1)
  where
    go : (t : Bool) → ((d : List ℕ) → In d (once_after m ms) → lex_le d m ≡ false) → Rising (once_after m ms) → Rising (cond t (once_after m ms) (m ∷ once_after m ms))
    go true a r = r
    go false a r = (a, r)

rising-distinct : (ls : List (List ℕ)) → Rising (distinct ls)
rising-distinct ls = go (sorted lex_le ls) (sorted_ordered lex_le (by_list (λ (l : List ℕ). l)) ls)
  where
    go : (ms : List (List ℕ)) → Ordered lex_le ms → Rising (once ms)
    go [] o = tt
    go (m ∷ ms) o = (after m ms o, rising-after m ms o)

rising-at : (l : List (List ℕ)) → Rising l → (i j : ℕ) → i < length l → j < length l → get_or l i [] ≡ get_or l j [] → i ≡ j
rising-at [] r i j a b e = absurd (omega arith)
rising-at (d ∷ l) r zero zero a b e = refl
rising-at (d ∷ l) r zero (suc j) a b e = clash (ap (λ (x : List ℕ). lex_le x d) (sym e) ∙ lex_refl d) (r.0 (get_or l j []) (in-get_or [] l j (omega arith)))
rising-at (d ∷ l) r (suc i) zero a b e = clash (ap (λ (x : List ℕ). lex_le x d) e ∙ lex_refl d) (r.0 (get_or l i []) (in-get_or [] l i (omega arith)))
rising-at (d ∷ l) r (suc i) (suc j) a b e = ap suc (rising-at l r.1 i j (omega arith) (omega arith) e)

pub distinct-at : (ls : List (List ℕ)) (i j : ℕ) → i < length (distinct ls) → j < length (distinct ls) → get_or (distinct ls) i [] ≡ get_or (distinct ls) j [] → i ≡ j
distinct-at ls i j a b e = rising-at (distinct ls) (rising-distinct ls) i j a b e

-- ---- how often a number stands in lists

times_none : (x : ℕ) (l : List ℕ) → (In x l → ⊥) → times x l ≡ 0
times_none x l h = ⊎_elim (λ (p : 0 < times x l). absurd (h (times_in x l p))) (λ (p : times x l ≤ 0). omega arith) (below? 0 (times x l))

times-replicate : (n m : ℕ) → times m (replicate n m) ≡ n
times-replicate zero m = refl
times-replicate (suc n) m = rw (eq-eqb m m refl) (ap suc (times-replicate n m))

times-sorted : (k : ℕ) (l : List ℕ) → times k (sorted up l) ≡ times k l
times-sorted k l = sym (count-times k (sorted up l)) ∙ count-sorted (λ x. eqb x k) up l ∙ count-times k l

-- a protein's list has a meta-peptide as often as the protein stands in it
list_times : (m i : ℕ) (es : List (List ℕ)) (k : ℕ) → i < length es → times (m + i) (list_from m es k) ≡ times k (get_or es i [])
list_times m i [] k h = absurd (omega arith)
list_times m zero (e ∷ es) k h =
    let z : m + 0 ≡ m = omega arith in
    let none : times m (list_from (suc m) es k) ≡ 0 = times_none m (list_from (suc m) es k) (λ i. let (j, b, y, c) = list_in m (suc m) es k i in omega arith) in
    rw z (times_append m (replicate (times k e) m) (list_from (suc m) es k) ∙ omega (arith, times-replicate (times k e) m))
list_times m (suc i) (e ∷ es) k h =
    let z : m + suc i ≡ suc m + i = omega arith in
    let none : times (suc m + i) (replicate (times k e) m) ≡ 0 = times_none (suc m + i) (replicate (times k e) m) (λ j. let (y, b) = replicate_in (suc m + i) (times k e) m j in omega arith) in
    rw z (times_append (suc m + i) (replicate (times k e) m) (list_from (suc m) es k) ∙ omega (arith, list_times (suc m) i es k (omega arith)))

lists-alike : (m : ℕ) (es : List (List ℕ)) (j k : ℕ) → ((i : ℕ) → i < length es → times j (get_or es i []) ≡ times k (get_or es i [])) → list_from m es j ≡ list_from m es k
lists-alike m [] j k h = refl
lists-alike m (e ∷ es) j k h = rw (h 0 (omega arith), lists-alike (suc m) es j k (λ i l. h (suc i) (omega arith)))

count-alike : {A : Type 0} (p q : A → Bool) → ((x : A) → p x ≡ q x) → (l : List A) → count p l ≡ count q l
count-alike p q h [] = refl
count-alike p q h (x ∷ xs) = rw (h x, count-alike p q h xs)

shown-times : (flags : List ℕ) (c p : ℕ) (qs : List Pair) → times c (packed_shown flags qs p) ≡ count (λ (q : Pair). eqb q.peptide p && eqb (packed_seen flags q) c) qs
shown-times flags c p [] = refl
shown-times flags c p (q ∷ qs) = go (eqb q.peptide p) (eqb (packed_seen flags q) c) refl (shown-times flags c p qs)
  where
    go : (t u : Bool) → eqb (packed_seen flags q) c ≡ u → times c (packed_shown flags qs p) ≡ count (λ (q : Pair). eqb q.peptide p && eqb (packed_seen flags q) c) qs
        → times c (map (packed_seen flags) (cond t (q ∷ pairs_of qs p) (pairs_of qs p))) ≡ bit (t && u) + count (λ (q : Pair). eqb q.peptide p && eqb (packed_seen flags q) c) qs
    go true true e r = rw e (omega arith)
    go true false e r = rw e (omega arith)
    go false u e r = omega arith

nothing : {A : Type 0} (l : List A) → length l ≤ 0 → l ≡ []
nothing [] h = refl
nothing (x ∷ xs) h = absurd (omega arith)

module _ (flags : List ℕ) (peptides : ℕ) (qs : List Pair) where
  abbrev ps : List ℕ
  ps = packed_proteins flags peptides qs

  abbrev ms : List (List ℕ)
  ms = packed_metas (packed_proteins flags peptides qs) flags peptides qs

  found_is : (y j : ℕ) → In y ps → j < length ps → eqb (first_at y ps) j ≡ eqb y (get_or ps j 0)
  found_is y j i h =
      iff (eqb (first_at y ps) j) (eqb y (get_or ps j 0))
      (λ e. eq-eqb y (get_or ps j 0) (sym (get_or_place y ps i) ∙ ap (λ (k : ℕ). get_or ps k 0) (eqb-true (first_at y ps) j e)))
      (λ e. eq-eqb (first_at y ps) j (ap (λ (x : ℕ). first_at x ps) (eqb-true y (get_or ps j 0) e) ∙ place_in_found flags peptides qs j h))

  places_times : (j : ℕ) → j < length ps → (l : List ℕ) → ((y : ℕ) → In y l → In y ps) → times j (map (λ (y : ℕ). first_at y ps) l) ≡ times (get_or ps j 0) l
  places_times j h [] f = refl
  places_times j h (y ∷ ys) f = rw (found_is y j (f y (inl refl)) h, places_times j h ys (λ x i. f x (inr i)))

  shown_found : (p : ℕ) → p < peptides → (y : ℕ) → In y (packed_shown flags qs p) → In y ps
  shown_found p l y h =
      let (q, i, z) = map_in (packed_seen flags) y (pairs_of qs p) h in
      let (j, e) = keep_in q (λ (r : Pair). eqb r.peptide p) qs i in
      let x : q.peptide ≡ p = eqb-true q.peptide p e in
      is_in {k = ps} (sym z) refl (in_found flags peptides qs (packed_seen flags q) (in_shown flags qs q 0 peptides j (omega arith) (omega arith)))

  evidence-times : (j p : ℕ) → j < length ps → p < peptides → times j (packed_evidence ps flags qs p) ≡ count (λ (q : Pair). eqb q.peptide p && eqb (packed_seen flags q) (get_or ps j 0)) qs
  evidence-times j p h l =
      times-sorted j (map (λ (y : ℕ). first_at y ps) (packed_shown flags qs p))
      ∙ places_times j h (packed_shown flags qs p) (shown_found p l)
      ∙ shown-times flags (get_or ps j 0) p qs

  -- proteins with one list stand equally often in each evidence
  list_evidence : (j k p : ℕ) → p < peptides → list_from 0 ms j ≡ list_from 0 ms k → times j (packed_evidence ps flags qs p) ≡ times k (packed_evidence ps flags qs p)
  list_evidence j k p l e = ⊎_elim some none (below? 0 (length (pairs_of qs p)))
    where
      none : length (pairs_of qs p) ≤ 0 → times j (packed_evidence ps flags qs p) ≡ times k (packed_evidence ps flags qs p)
      none h = let z : pairs_of qs p ≡ [] = nothing (pairs_of qs p) h in rw z

      at : (m : ℕ) → m < length ms → get_or ms m [] ≡ packed_evidence ps flags qs p → times j (packed_evidence ps flags qs p) ≡ times k (packed_evidence ps flags qs p)
      at m h z =
          ap (times j) (sym z) ∙ sym (list_times 0 m ms j h) ∙ ap (times (0 + m)) e ∙ list_times 0 m ms k h ∙ ap (times k) z

      some : 0 < length (pairs_of qs p) → times j (packed_evidence ps flags qs p) ≡ times k (packed_evidence ps flags qs p)
      some h =
          let (q, i) = some_in (pairs_of qs p) h in
          let (u, y) = keep_in q (λ (r : Pair). eqb r.peptide p) qs i in
          let x : q.peptide ≡ p = eqb-true q.peptide p y in
          let (m, b, z) = own-meta flags peptides qs q u (omega arith) in
          at m b (z ∙ ap (packed_evidence ps flags qs) x)

  -- proteins that stand equally often in each evidence have one list
  evidence_list : (j k : ℕ) → ((p : ℕ) → p < peptides → times j (packed_evidence ps flags qs p) ≡ times k (packed_evidence ps flags qs p)) → list_from 0 ms j ≡ list_from 0 ms k
  evidence_list j k h = lists-alike 0 ms j k one
    where
      one : (i : ℕ) → i < length ms → times j (get_or ms i []) ≡ times k (get_or ms i [])
      one i l =
          let (p, t, e) = meta-has flags peptides qs i l in
          let (q, s, z, b) = taking-has flags peptides qs p t in
          ap (times j) e ∙ h p b ∙ sym (ap (times k) e)

  module _ (fit : PairsFit flags peptides qs) where
    -- a peptide shows a member as often as the member's place stands in its evidence
    showing-times : (m : Member) (g k p : ℕ) → m ≡ packed_member ps g k → k < length ps → p < peptides → showing flags qs p m ≡ times k (packed_evidence ps flags qs p)
    showing-times m g k p e h l =
        ap (showing flags qs p) e
        ∙ count-alike (λ (q : Pair). eqb q.peptide p && (eqb q.protein (x / 2) && eqb (get_or flags q.peptide 0) (x % 2))) (λ (q : Pair). eqb q.peptide p && eqb (packed_seen flags q) x) one qs
        ∙ sym (evidence-times k p h l)
      where
        x : ℕ
        x = get_or ps k 0

        one : (q : Pair) → (eqb q.peptide p && (eqb q.protein (x / 2) && eqb (get_or flags q.peptide 0) (x % 2))) ≡ (eqb q.peptide p && eqb (packed_seen flags q) x)
        one q =
            let z : x / 2 * 2 + x % 2 ≡ x = omega arith in
            ap (λ (t : Bool). eqb q.peptide p && t) (pair_is flags peptides qs fit q (x / 2) (x % 2) (omega arith) ∙ ap (eqb (packed_seen flags q)) z)

    module _ (m n : Member) (g h j k : ℕ) (a : m ≡ packed_member ps g j) (b : n ≡ packed_member ps h k) (c : j < length ps) (d : k < length ps) where
      pub list_showing : list_from 0 ms j ≡ list_from 0 ms k → (p : ℕ) → p < peptides → showing flags qs p m ≡ showing flags qs p n
      list_showing e p l = showing-times m g j p a c l ∙ list_evidence j k p l e ∙ sym (showing-times n h k p b d l)

      pub showing_list : ((p : ℕ) → p < peptides → showing flags qs p m ≡ showing flags qs p n) → list_from 0 ms j ≡ list_from 0 ms k
      showing_list f = evidence_list j k (λ p l. sym (showing-times m g j p a c l) ∙ f p l ∙ showing-times n h k p b d l)
