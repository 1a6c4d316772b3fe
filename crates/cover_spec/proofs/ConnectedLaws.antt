-- The part of a group holds the edges whose groups are connected to it, and no others. Assumes nothing.
use Rattle.std.specs.Prelude.{Bool, true, false, ◌&&◌, ◌||◌, cond, ◌≡◌, refl, ◌⊎◌}
use Rattle.std.proofs.Common.{true≢false, sym, ap, ◌∙◌, arith, eqb-true, eq-eqb, ltb-true, lt-ltb}
use mathlib.Core.List.{List, [], ◌∷◌}
use Prim.Native.Nat.{ℕ, zero, suc, ◌<◌}
use Rattle.std.proofs.Math.Dec.{eqb}
use Rattle.std.proofs.Math.ListN.{length}
use Rattle.std.proofs.Math.Path.{subst}
use Rattle.std.proofs.Math.Logic.{inl, inr}
use Rattle.lists.specs.Lists.{count, some, keep, All}
use Rattle.lists.specs.Tests.{or_left, or_right}
use Rattle.lists.specs.KeepLaws.{all_map, all_keep, all-kept, all_two, all-has, count-keep, count-le, length-keep}
use Rattle.cover_spec.specs.Cover.{Edge, group, meta, same_edge}
use Rattle.cover_spec.specs.Update.{meets, reached, part_of}
use Rattle.cover_spec.specs.CountLaws.{all-at, find, edge_same}

abbrev pub ◌∈◌ : Edge → List Edge → Type 0
e ∈ l = 0 < count (same_edge e) l

infix 40 ◌∈◌
-- two groups are connected by a chain of groups, each of which shares a meta-peptide with the next
pub data Connected (J : List Edge) : ℕ → ℕ → Type 0 where
  here : {g : ℕ} → Connected J g g
  across : {g : ℕ} (d e : Edge) → Connected J g (group d) → d ∈ J → e ∈ J → meta d ≡ meta e → Connected J g (group e)

pub chain : {J : List Edge} {g h k : ℕ} → Connected J g h → Connected J h k → Connected J g k
chain a here = a
chain a (across d e b x y q) = across d e (chain a b) x y q

-- ---- an edge that stands in a list

pub edges_in : (l : List Edge) → All (λ e. e ∈ l) l
edges_in l = all_map (λ e h. h (same_edge e) (edge_same e)) l (all-has l)

pub member-some : (p : Edge → Bool) (e : Edge) (l : List Edge) → e ∈ l → p e ≡ true → some p l ≡ true
member-some p e l i j = lt-ltb 0 (count p l) (all-at (λ d. (q : Edge → Bool) → q d ≡ true → 0 < count q l) e l (all-has l) i p j)

kept : (q : Edge → Bool) (e : Edge) (l : List Edge) → e ∈ l → q e ≡ true → e ∈ keep q l
kept q e l i j =
    rw (count-keep (same_edge e) q l) (ltb-true 0 (count (λ d. q d && same_edge e d) l) (member-some (λ d. q d && same_edge e d) e l i (rw (j, edge_same e))))

-- a weaker test keeps the same edges, or more
grow : (q r : Edge → Bool) (l : List Edge) → All (λ e. q e ≡ true → r e ≡ true) l → (keep r l ≡ keep q l) ⊎ (length (keep q l) < length (keep r l))
grow q r [] h = inl refl
grow q r (e ∷ l) h = go (q e) refl (r e) refl (grow q r l h.1)
  where
    go : (b : Bool) → q e ≡ b → (c : Bool) → r e ≡ c → (keep r l ≡ keep q l) ⊎ (length (keep q l) < length (keep r l))
        → (cond c (e ∷ keep r l) (keep r l) ≡ cond b (e ∷ keep q l) (keep q l)) ⊎ (length (cond b (e ∷ keep q l) (keep q l)) < length (cond c (e ∷ keep r l) (keep r l)))
    go true i true j (inl x) = inl (ap (λ (k : List Edge). e ∷ k) x)
    go true i true j (inr x) = inr (omega arith)
    go true i false j x = absurd (true≢false (sym (h.0 i) ∙ j))
    go false i true j (inl x) = inr (rw x (omega arith))
    go false i true j (inr x) = inr (omega arith)
    go false i false j x = x

-- ---- the part of group g

by-group : (l : List Edge) (d e : Edge) → d ∈ l → group d ≡ group e → meets l e ≡ true
by-group l d e i q = member-some (λ a. eqb (group a) (group e) || eqb (meta a) (meta e)) d l i (or_left _ _ (eq-eqb (group d) (group e) q))

by-meta : (l : List Edge) (d e : Edge) → d ∈ l → meta d ≡ meta e → meets l e ≡ true
by-meta l d e i q = member-some (λ a. eqb (group a) (group e) || eqb (meta a) (meta e)) d l i (or_right (eqb (group d) (group e)) _ (eq-eqb (meta d) (meta e) q))

module _ (J : List Edge) (g : ℕ) where
  abbrev Linked : Edge → Type 0
  Linked e = (e ∈ J) × Connected J g (group e)

  -- what is kept of J is linked if it follows from the test
  linked_kept : (q : Edge → Bool) → ((e : Edge) → e ∈ J → q e ≡ true → Connected J g (group e)) → All Linked (keep q J)
  linked_kept q f =
      all_map (λ e r. (r.0, f e r.0 r.1)) (keep q J) (all_two (λ e. e ∈ J) (λ e. q e ≡ true) (keep q J) (all_keep _ q J (edges_in J)) (all-kept q J))

  meets_linked : (l : List Edge) → All Linked l → (e : Edge) → e ∈ J → meets l e ≡ true → Connected J g (group e)
  meets_linked l h e m i =
      let p : Edge → Bool = λ d. eqb (group d) (group e) || eqb (meta d) (meta e) in
      let (d, j, z) = find p l (ltb-true 0 (count p l) i) in go d (all-at Linked d l h z) (eqb (group d) (group e)) refl j
    where
      go : (d : Edge) → Linked d → (b : Bool) → eqb (group d) (group e) ≡ b → (b || eqb (meta d) (meta e)) ≡ true → Connected J g (group e)
      go d r true q j = subst (Connected J g) (eqb-true (group d) (group e) q) r.1
      go d r false q j = across d e r.1 r.0 m (eqb-true (meta d) (meta e) j)

  reached_linked : (k : ℕ) → All Linked (reached k J g)
  unfolding reached
  reached_linked zero = linked_kept (λ e. eqb (group e) g) (λ e i j. subst (Connected J g) (sym (eqb-true (group e) g j)) here)
  reached_linked (suc k) = linked_kept (meets (reached k J g)) (meets_linked (reached k J g) (reached_linked k))

  pub part_linked : All Linked (part_of J g)
  part_linked = reached_linked (length J)

  -- each step reaches an edge more, or no step from there on does
  meets-own : (q : Edge → Bool) → All (λ e. q e ≡ true → meets (keep q J) e ≡ true) J
  meets-own q = all_map (λ e i j. by-group (keep q J) e e (kept q e J i j) refl) J (edges_in J)

  settles : (k : ℕ) → (reached (suc k) J g ≡ reached k J g) ⊎ (k < length (reached (suc k) J g))
  unfolding reached
  settles zero = go (grow (λ e. eqb (group e) g) (meets (reached 0 J g)) J (meets-own (λ e. eqb (group e) g)))
    where
      go : (reached 1 J g ≡ reached 0 J g) ⊎ (length (reached 0 J g) < length (reached 1 J g)) → (reached 1 J g ≡ reached 0 J g) ⊎ (0 < length (reached 1 J g))
      go (inl x) = inl x
      go (inr x) = inr (omega arith)
  settles (suc k) = go (settles k) (grow (meets (reached k J g)) (meets (reached (suc k) J g)) J (meets-own (meets (reached k J g))))
    where
      go : (reached (suc k) J g ≡ reached k J g) ⊎ (k < length (reached (suc k) J g))
          → (reached (suc (suc k)) J g ≡ reached (suc k) J g) ⊎ (length (reached (suc k) J g) < length (reached (suc (suc k)) J g))
          → (reached (suc (suc k)) J g ≡ reached (suc k) J g) ⊎ (suc k < length (reached (suc (suc k)) J g))
      go (inl x) y = inl (ap (λ (l : List Edge). keep (meets l) J) x)
      go (inr x) (inl y) = inl y
      go (inr x) (inr y) = inr (omega arith)

  settled : keep (meets (part_of J g)) J ≡ part_of J g
  unfolding reached
  settled = go (settles (length J))
    where
      go : (keep (meets (part_of J g)) J ≡ part_of J g) ⊎ (length J < length (keep (meets (part_of J g)) J)) → keep (meets (part_of J g)) J ≡ part_of J g
      go (inl x) = x
      go (inr x) = absurd (omega (arith, length-keep (meets (part_of J g)) J, count-le (meets (part_of J g)) J))

  near : (e : Edge) → e ∈ J → meets (part_of J g) e ≡ true → e ∈ part_of J g
  near e i m = subst (λ (l : List Edge). e ∈ l) settled (kept (meets (part_of J g)) e J i m)

  own : (k : ℕ) (e : Edge) → e ∈ J → group e ≡ g → e ∈ reached k J g
  unfolding reached
  own zero e i q = kept (λ d. eqb (group d) g) e J i (eq-eqb (group e) g q)
  own (suc k) e i q = kept (meets (reached k J g)) e J i (by-group (reached k J g) e e (own k e i q) refl)

  pub part-has : {h : ℕ} → Connected J g h → (e : Edge) → e ∈ J → group e ≡ h → e ∈ part_of J g
  part-has here e i q = own (length J) e i q
  part-has (across a b c x y m) e i q = near e i (by-group (part_of J g) b e (near b y (by-meta (part_of J g) a b (part-has c a x refl) m)) (sym q))
