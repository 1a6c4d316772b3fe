-- The tables of the walk, all in one list w: remaining edges from 0 on, covered meta-peptides from n on, marks from n + m on, and from
-- n + m + n on what the walk only reads: for each group its meta-peptides, for each meta-peptide its groups, and the order. The steps of
-- the walk: a meta-peptide covered, a group taken, a level walked. Assumes nothing.
use Rattle.std.specs.Prelude.{◌≡◌, Bool, ◌&&◌, ◌||◌, List, [], ◌∷◌, ℕ, suc, ◌+◌, ◌-◌, ◌≤◌, ◌<◌, length, get_or, set}
use Rattle.std.proofs.Math.Path.{refl, sym, ap}
use Rattle.std.proofs.Common.{◌∙◌, subst, inr, arith, zero-add, length-set, get_or-set_same, get_or-set_other, eqb-true, lt-ltb}
use Rattle.std.proofs.Math.Bool.{true, false, not, or-false, and-false, and_comm}
use Rattle.std.proofs.Math.Dec.{ltb, eqb}
use Rattle.std.proofs.Math.Seq.{slice}
use Rattle.std.proofs.lemmas.Bool.{eqb-false}
use Rattle.cover_tables.specs.TableLaws.{times-next, times_end, times-at, Lowerable, Lists, lists-same}
use Rattle.lists.specs.Lists.{bit, count, some, keep, times, All}
use Rattle.lists.specs.FrameLaws.{Framed, framed_none, framed_then, framed_within, framed_set}
use Rattle.lists.specs.KeepLaws.{all_map, count_ext, count-keep, keep_ext, every}
use Rattle.lists.specs.Tests.{eqb-sym}
use Rattle.cover_spec.specs.Cover.{Edge, group, meta, of_group, State, cover, same_edge}
use Rattle.cover_spec.specs.CountLaws.{all-at}
use Rattle.cover_spec.proofs.TakeLaws.{taken_by, takes}
use Rattle.cover_spec.proofs.RunLaws.{after_turns}
use Rattle.cover_spec.specs.Order.{GroupOrder}
use Rattle.cover_spec.proofs.LevelLaws.{degree, remaining, At, after_lean, found_choice, passed-by, down, at-start, at_end}
use Rattle.cover_tables.specs.declared.areas.Areas.{Areas}

-- ---- counting

count_split : (p q r : Edge → Bool) → ((e : Edge) → bit (p e) + bit (q e) ≡ bit (r e)) → (l : List Edge) → count p l + count q l ≡ count r l
count_split p q r h [] = refl
count_split p q r h (e ∷ l) = omega (arith, h e, count_split p q r h l)

-- a meta-peptide x, not covered, is covered: each group loses its edges to x
pub split : (u v : ℕ → Bool) (x g : ℕ) → u x ≡ false → ((y : ℕ) → v y ≡ (eqb y x || u y)) → (l : List Edge)
    → of_group g (keep (λ e. not (v (meta e))) l) + count (same_edge (g, x)) l ≡ of_group g (keep (λ e. not (u (meta e))) l)
split u v x g i h l =
    rw (count-keep (λ e. eqb (group e) g) (λ e. not (v (meta e))) l, count-keep (λ e. eqb (group e) g) (λ e. not (u (meta e))) l)
    (count_split (λ e. not (v (meta e)) && eqb (group e) g) (same_edge (g, x)) (λ e. not (u (meta e)) && eqb (group e) g) each l)
  where
    each : (e : Edge) → bit (not (v (meta e)) && eqb (group e) g) + bit (same_edge (g, x) e) ≡ bit (not (u (meta e)) && eqb (group e) g)
    each e = go (eqb (meta e) x) refl (eqb (group e) g) refl
      where
        go : (a : Bool) → eqb (meta e) x ≡ a → (b : Bool) → eqb (group e) g ≡ b → bit (not (v (meta e)) && eqb (group e) g) + bit (same_edge (g, x) e) ≡ bit (not (u (meta e)) && eqb (group e) g)
        go true j true k = rw (h (meta e), j, k, eqb-sym g (group e) ∙ k, eqb-sym x (meta e) ∙ j, ap u (eqb-true (meta e) x j) ∙ i)
        go true j false k = rw (h (meta e), j, k, eqb-sym g (group e) ∙ k, ap u (eqb-true (meta e) x j) ∙ i)
        go false j true k = rw (h (meta e), j, k, eqb-sym g (group e) ∙ k, eqb-sym x (meta e) ∙ j) (omega arith)
        go false j false k = rw (h (meta e), j, k, eqb-sym g (group e) ∙ k) (omega arith)

module _ (areas : Areas) (all : List Edge) where
  abbrev n : ℕ
  n = areas.groups

  abbrev m : ℕ
  m = areas.metas

  abbrev go : ℕ
  go = areas.go

  abbrev mo : ℕ
  mo = areas.mo

  abbrev od : ℕ
  od = areas.od

  pub record WalkTables (w : List ℕ) : Type 0 where
    pub bounds : All (λ e. (group e < n) × (meta e < m)) all
    pub by_group : Lists (n + m + n) go n (λ x. of_group x all) (λ x y. count (same_edge (x, y)) all) w
    pub by_meta : Lists (n + m + n) mo m (λ x. count (λ e. eqb (meta e) x) all) (λ x y. count (same_edge (y, x)) all) w
    pub order : GroupOrder n (degree n all) (λ i. get_or w (od + i) 0)
    pub order_above : n + m + n ≤ od
    pub order-fits : od + n ≤ length w

  pub tables-same : (w v : List ℕ) → length v ≡ length w → Framed 0 (n + m + n) w v → WalkTables w → WalkTables v
  tables-same w v l h r = record {
    bounds = r.bounds;
    by_group = lists-same (n + m + n) go n (λ x. of_group x all) (λ x y. count (same_edge (x, y)) all) w v l h r.by_group;
    by_meta = lists-same (n + m + n) mo m (λ x. count (λ e. eqb (meta e) x) all) (λ x y. count (same_edge (y, x)) all) w v l h r.by_meta;
    order = record {
      below = λ i b. rw (at i) (r.order.below i b);
      holds = λ g b. let (i, j, q) = r.order.holds g b in (i, j, at i ∙ q);
      falls = λ i j b k. rw (at i, at j) (r.order.falls i j b k);
    };
    order_above = r.order_above;
    order-fits = omega (arith, r.order-fits);
  }
    where
      at : (i : ℕ) → get_or v (od + i) 0 ≡ get_or w (od + i) 0
      at i = h (od + i) (inr (omega (arith, r.order_above)))

  -- whether meta-peptide y is covered
  abbrev pub covers : List ℕ → ℕ → Bool
  covers w y = eqb (get_or w (n + y) 0) 1

  -- the counts of the groups are those of the edges of uncovered meta-peptides
  abbrev pub Counts : List ℕ → Type 0
  Counts w = (g : ℕ) → g < n → get_or w g 0 ≡ of_group g (keep (λ e. not (covers w (meta e))) all)

  -- the tables can be worked on
  pub record Walk (w : List ℕ) : Type 0 where
    pub tables : WalkTables w
    pub counts : Counts w

  -- w with meta-peptide x covered is v
  pub record Visits (x : ℕ) (w v : List ℕ) : Type 0 where
    pub walk : Walk v
    pub covered : (y : ℕ) → covers v y ≡ (eqb y x || covers w y)
    pub rest : Framed 0 (n + m) w v

  -- w with all meta-peptides of c covered is v
  pub record Reaches (c : ℕ) (w v : List ℕ) : Type 0 where
    pub walk : Walk v
    pub covered : (y : ℕ) → covers v y ≡ (covers w y || some (same_edge (c, y)) all)
    pub rest : Framed 0 (n + m) w v

  -- ---- one meta-peptide

  module _ (w : List ℕ) (a : Walk w) (x : ℕ) (b : x < m) where
    r : WalkTables w
    r = a.tables

    k : Counts w
    k = a.counts

    abbrev pub covered : List ℕ
    covered = set w (n + x) 1

    pub meta_inside : n + x < length w
    meta_inside = omega (arith, r.order_above, r.order-fits)

    covers-set : (y : ℕ) → covers covered y ≡ (eqb y x || covers w y)
    covers-set y = step (eqb y x) refl
      where
        step : (t : Bool) → eqb y x ≡ t → covers covered y ≡ (t || covers w y)
        step true e = ap (λ (z : ℕ). eqb z 1) (ap (λ (z : ℕ). get_or covered (n + z) 0) (eqb-true y x e) ∙ get_or-set_same w (n + x) 1 0 meta_inside)
        step false e = ap (λ (z : ℕ). eqb z 1) (get_or-set_other w (n + x) (n + y) 1 0 (λ q. eqb-false y x e (omega arith)))

    low_set : (g : ℕ) → g < n → get_or covered g 0 ≡ get_or w g 0
    low_set g c = get_or-set_other w (n + x) g 1 0 (λ q. omega arith)

    high_set : Framed 0 (n + m) w covered
    high_set = framed_set 0 (n + m) (n + x) 1 w (omega arith) (omega arith)

    abbrev pub from : ℕ
    from = get_or covered (mo + x) 0

    abbrev pub till : ℕ
    till = get_or covered (mo + x + 1) 0

    lists' : Lists (n + m + n) mo m (λ z. count (λ e. eqb (meta e) z) all) (λ z y. count (same_edge (y, z)) all) covered
    lists' = lists-same (n + m + n) mo m (λ z. count (λ e. eqb (meta e) z) all) (λ z y. count (same_edge (y, z)) all) w covered (length-set w (n + x) 1) (framed_within 0 0 (n + m) (n + m + n) w covered (omega arith) (omega arith) high_set) r.by_meta

    listed' : (g : ℕ) → times g (slice from till covered) ≡ count (same_edge (g, x)) all
    listed' g = lists'.lists x g b

    pub visit_lowerable : covers w x ≡ false → Lowerable n from till covered
    visit_lowerable i = record {
      behind = omega (arith, lists'.starts x b);
      order = omega (arith, lists'.sizes x b);
      fits = lists'.ends x b;
      names = λ p c d. named p (omega (arith, listed' (get_or covered p 0), times-at covered from p till c d (lists'.ends x b)));
      enough = λ g c. omega (arith, listed' g, low_set g c, k g c, split (covers w) (covers covered) x g i covers-set all);
    }
      where
        named : (p : ℕ) → 0 < count (same_edge (get_or covered p 0, x)) all → get_or covered p 0 < n
        named p z = (all-at (λ e. (group e < n) × (meta e < m)) (get_or covered p 0, x) all r.bounds z).0

    pub meta-lists : (mo + x < length w) × (mo + x + 1 < length w)
    meta-lists = (omega (arith, r.by_meta.fits), omega (arith, r.by_meta.fits))

    module _ (v : List ℕ) (len : length v ≡ length covered) (i : covers w x ≡ false) (low : (g : ℕ) → g < n → get_or v g 0 + times g (slice from till covered) ≡ get_or covered g 0) (rest : Framed 0 n covered v) where
      pub visit_covers : (y : ℕ) → covers v y ≡ (eqb y x || covers w y)
      visit_covers y = ap (λ (z : ℕ). eqb z 1) (rest (n + y) (inr (omega arith))) ∙ covers-set y

      pub visit_counts : Counts v
      visit_counts g c = omega (arith, low g c, listed' g, low_set g c, k g c, split (covers w) (covers v) x g i visit_covers all)

      pub visit_rest : Framed 0 (n + m) w v
      visit_rest = framed_then 0 (n + m) w covered v high_set (framed_within 0 0 n (n + m) covered v (omega arith) (omega arith) rest)

      pub meta_visited : Visits x w v
      meta_visited = record {
        walk = record { tables = tables-same w v (len ∙ length-set w (n + x) 1) (framed_within 0 0 (n + m) (n + m + n) w v (omega arith) (omega arith) visit_rest) r; counts = visit_counts };
        covered = visit_covers;
        rest = visit_rest;
      }

    -- covered already
    pub visited_before : covers w x ≡ true → Visits x w w
    visited_before i = record { walk = a; covered = λ y. step y (eqb y x) refl; rest = framed_none 0 (n + m) w }
      where
        step : (y : ℕ) (t : Bool) → eqb y x ≡ t → covers w y ≡ (t || covers w y)
        step y true e = ap (covers w) (eqb-true y x e) ∙ i
        step y false e = refl

  -- ---- the meta-peptides of a group

  module _ (c : ℕ) (w₀ : List ℕ) where
    abbrev first : ℕ
    first = get_or w₀ (go + c) 0

    abbrev last : ℕ
    last = get_or w₀ (go + c + 1) 0

    pub record Reaching (w : List ℕ) (p : ℕ) : Type 0 where
      pub low : first ≤ p
      pub high : p ≤ last
      pub size : length w ≡ length w₀
      pub walk : Walk w
      pub covereds : (y : ℕ) → (covers w y || ltb 0 (times y (slice p last w₀))) ≡ (covers w₀ y || ltb 0 (times y (slice first last w₀)))
      pub rest : Framed 0 (n + m) w₀ w

  module _ (c : ℕ) (b : c < n) (w₀ : List ℕ) (a₀ : Walk w₀) where
    r₀ : WalkTables w₀
    r₀ = a₀.tables

    pub reaching_lists : (go + c < length w₀) × (go + c + 1 < length w₀)
    reaching_lists = (omega (arith, r₀.by_group.fits), omega (arith, r₀.by_group.fits))

    pub reaching_start : Reaching c w₀ w₀ (first c w₀)
    reaching_start = record { low = omega arith; high = omega (arith, r₀.by_group.sizes c b); size = refl; walk = a₀; covereds = λ y. refl; rest = framed_none 0 (n + m) w₀ }

    module _ (w : List ℕ) (p : ℕ) (s : Reaching c w₀ w p) (more : p < (last c w₀)) where
      here : get_or w p 0 ≡ get_or w₀ p 0
      here = s.rest p (inr (omega (arith, s.low, r₀.by_group.starts c b)))

      pub reaching_inside : p < length w
      reaching_inside = omega (arith, r₀.by_group.ends c b, s.size)

      pub reaching_meta : get_or w p 0 < m
      reaching_meta =
          rw here (all-at (λ e. (group e < n) × (meta e < m)) (c, get_or w₀ p 0) all r₀.bounds
          (omega (arith, r₀.by_group.lists c (get_or w₀ p 0) b, times-at w₀ (first c w₀) p (last c w₀) s.low more (r₀.by_group.ends c b)))).1

      pub reaching_step : (v : List ℕ) → length v ≡ length w → Visits (get_or w p 0) w v → Reaching c w₀ v (p + 1)
      reaching_step v l h = record {
        low = omega (arith, s.low);
        high = omega arith;
        size = l ∙ s.size;
        walk = h.walk;
        covereds = λ y. one y ∙ s.covereds y;
        rest = framed_then 0 (n + m) w₀ w v s.rest h.rest;
      }
        where
          shuffle : (t u : Bool) (j : ℕ) → ((t || u) || ltb 0 j) ≡ (u || ltb 0 (bit t + j))
          shuffle true true j = refl
          shuffle true false j = sym (lt-ltb 0 (1 + j) (omega arith))
          shuffle false true j = refl
          shuffle false false j = ap (ltb 0) (sym (zero-add j))

          one : (y : ℕ) → (covers v y || ltb 0 (times y (slice (p + 1) (last c w₀) w₀))) ≡ (covers w y || ltb 0 (times y (slice p (last c w₀) w₀)))
          one y = rw (h.covered y, times-next w₀ p (last c w₀) y more (r₀.by_group.ends c b), here, eqb-sym y (get_or w₀ p 0)) (shuffle (eqb (get_or w₀ p 0) y) (covers w y) (times y (slice (p + 1) (last c w₀) w₀)))

    pub reaching_end : (w : List ℕ) (p : ℕ) → Reaching c w₀ w p → (last c w₀) ≤ p → (y : ℕ) → covers w y ≡ (covers w₀ y || some (same_edge (c, y)) all)
    reaching_end w p s d y =
        sym (or-false (covers w y)) ∙ ap (λ (i : ℕ). covers w y || ltb 0 i) (sym (times_end w₀ p (last c w₀) y (omega (arith, s.high)))) ∙ s.covereds y ∙ ap (λ (i : ℕ). covers w₀ y || ltb 0 i) (r₀.by_group.lists c y b)

    pub reaches : (w : List ℕ) (p : ℕ) → Reaching c w₀ w p → (last c w₀) ≤ p → Reaches c w₀ w
    reaches w p s d = record { walk = s.walk; covered = reaching_end w p s d; rest = s.rest }

  -- ---- the run in the tables

  abbrev pub marks : List ℕ → ℕ → Bool
  marks w g = eqb (get_or w (n + m + g) 0) 1

  pub record RunStands (t : ℕ) (w : List ℕ) : Type 0 where
    pub counts : Counts w
    pub covered : (y : ℕ) → y < m → covers w y ≡ (after_turns n all t).covered y
    pub marked : (g : ℕ) → g < n → marks w g ≡ (after_turns n all t).marked g

  -- what taking group c does
  pub record Takes (c : ℕ) (w v : List ℕ) : Type 0 where
    pub walk : Walk v
    pub covered : (y : ℕ) → y < m → covers v y ≡ (covers w y || some (same_edge (c, y)) all)
    pub marked : (g : ℕ) → g < n → marks v g ≡ (eqb g c || marks w g)
    pub rest : Framed 0 (n + m + n) w v

  module _ (bounds : All (λ e. (group e < n) × (meta e < m)) all) where
    keep_lean : (t : ℕ) (w : List ℕ) → RunStands t w → keep (λ e. not (covers w (meta e))) all ≡ (after_turns n all t).edges
    keep_lean t w s = keep_ext (λ e. not (covers w (meta e))) (λ e. not ((after_turns n all t).covered (meta e))) all (all_map (λ e b. ap not (s.covered (meta e) b.1)) all bounds) ∙ sym (after_lean n all t)

    pub stands_counts : (t : ℕ) (w : List ℕ) → RunStands t w → (g : ℕ) → g < n → get_or w g 0 ≡ remaining n all t g
    stands_counts t w s g b = s.counts g b ∙ ap (λ (l : List Edge). of_group g l) (keep_lean t w s)

    pub stands_take : (t c : ℕ) (w v : List ℕ) → RunStands t w → Takes c w v → after_turns n all (suc t) ≡ taken_by c (after_turns n all t) → RunStands (suc t) v
    unfolding taken_by takes
    stands_take t c w v s k e = record {
      counts = k.walk.counts;
      covered = λ y b. k.covered y b ∙ rw (s.covered y b) (grown y ((after_turns n all t).covered y) refl ∙ ap (λ (u : State). u.covered y) (sym e));
      marked = λ g b. k.marked g b ∙ rw (s.marked g b) (ap (λ (u : State). u.marked g) (sym e));
    }
      where
        grown : (y : ℕ) (d : Bool) → (after_turns n all t).covered y ≡ d → (d || some (same_edge (c, y)) all) ≡ (d || takes (after_turns n all t).edges c y)
        grown y true i = refl
        grown y false i =
            ap (λ (j : ℕ). ltb 0 j)
            (count_ext (same_edge (c, y)) (λ x. not ((after_turns n all t).covered (meta x)) && (eqb (meta x) y && eqb (group x) c)) all (every _ each all)
            ∙ sym (count-keep (λ x. eqb (meta x) y && eqb (group x) c) (λ x. not ((after_turns n all t).covered (meta x))) all)
            ∙ ap (count (λ x. eqb (meta x) y && eqb (group x) c)) (sym (after_lean n all t)))
          where
            each : (x : Edge) → same_edge (c, y) x ≡ (not ((after_turns n all t).covered (meta x)) && (eqb (meta x) y && eqb (group x) c))
            each x = rw (eqb-sym c (group x), eqb-sym y (meta x)) (step (eqb (meta x) y) refl)
              where
                step : (q : Bool) → eqb (meta x) y ≡ q → (eqb (group x) c && q) ≡ (not ((after_turns n all t).covered (meta x)) && (q && eqb (group x) c))
                step true j = rw (ap (after_turns n all t).covered (eqb-true (meta x) y j) ∙ i) (and_comm (eqb (group x) c) true)
                step false j = and-false (eqb (group x) c) ∙ sym (and-false (not ((after_turns n all t).covered (meta x))))

  -- a mark changes nothing else
  module _ (c : ℕ) (b : c < n) (w : List ℕ) (a : Walk w) where
    pub mark_inside : n + m + c < length w
    mark_inside = omega (arith, a.tables.order_above, a.tables.order-fits)

    abbrev pub with_mark : List ℕ
    with_mark = set w (n + m + c) 1

    other : (x : ℕ) → (x ≡ n + m + c → ⊥) → get_or with_mark x 0 ≡ get_or w x 0
    other x q = get_or-set_other w (n + m + c) x 1 0 q

    counts' : Counts with_mark
    counts' g d = other g (λ q. omega arith) ∙ a.counts g d
        ∙ ap (λ (l : List Edge). of_group g l) (keep_ext (λ e. not (covers w (meta e))) (λ e. not (covers with_mark (meta e))) all
        (all_map (λ e i. ap (λ (z : ℕ). not (eqb z 1)) (sym (other (n + meta e) (λ q. omega (arith, i.1))))) all a.tables.bounds))

    pub mark_walk : Walk with_mark
    mark_walk = record { tables = tables-same w with_mark (length-set w (n + m + c) 1) (framed_set 0 (n + m + n) (n + m + c) 1 w (omega arith) (omega arith)) a.tables; counts = counts' }

    pub takes_all : (v : List ℕ) → Reaches c with_mark v → Takes c w v
    takes_all v h = record {
      walk = h.walk;
      covered = λ y d. h.covered y ∙ ap (λ (z : ℕ). eqb z 1 || some (same_edge (c, y)) all) (other (n + y) (λ q. omega arith));
      marked = λ g d. ap (λ (z : ℕ). eqb z 1) (h.rest (n + m + g) (inr (omega arith))) ∙ one g (eqb g c) refl;
      rest = framed_then 0 (n + m + n) w with_mark v (framed_set 0 (n + m + n) (n + m + c) 1 w (omega arith) (omega arith)) (framed_within 0 0 (n + m) (n + m + n) with_mark v (omega arith) (omega arith) h.rest);
    }
      where
        one : (g : ℕ) (t : Bool) → eqb g c ≡ t → marks with_mark g ≡ (t || marks w g)
        one g true e = ap (λ (z : ℕ). eqb z 1) (ap (λ (z : ℕ). get_or with_mark (n + m + z) 0) (eqb-true g c e) ∙ get_or-set_same w (n + m + c) 1 0 mark_inside)
        one g false e = ap (λ (z : ℕ). eqb z 1) (other (n + m + g) (λ q. eqb-false g c e (omega arith)))

  -- ---- the levels in the tables

  abbrev place : List ℕ → ℕ → ℕ
  place w i = get_or w (od + i) 0

  -- the walk stands at level d, place i
  pub record Levels (d i : ℕ) (w : List ℕ) : Type 0 where
    pub walk : Walk w
    pub turns : ℕ
    pub stands : RunStands turns w
    pub here : At n all (place w) turns d i

  module _ (w : List ℕ) (d i : ℕ) (h : Levels d i w) (b : i < n) where
    tb : WalkTables w
    tb = h.walk.tables

    pub place_inside : od + i < length w
    place_inside = omega (arith, tb.order-fits)

    pub place-group : place w i < n
    place-group = tb.order.below i b

    pub group_inside : place w i < length w
    group_inside = omega (arith, place-group, tb.order_above, tb.order-fits)

    left : get_or w (place w i) 0 ≡ remaining n all h.turns (place w i)
    left = stands_counts tb.bounds h.turns w h.stands (place w i) place-group

    -- the group at this place has fewer edges left
    pub levels_pass : (get_or w (place w i) 0 ≡ d → ⊥) → Levels d (i + 1) w
    levels_pass q = record { walk = h.walk; turns = h.turns; stands = h.stands; here = passed-by n all (place w) tb.order h.turns d i h.here b (λ e. q (left ∙ e)) }

    -- the group at this place is the choice
    pub levels_take : 0 < d → get_or w (place w i) 0 ≡ d → (v : List ℕ) → Takes (place w i) w v → Levels d (i + 1) v
    levels_take z e v t = record { walk = t.walk; turns = suc h.turns; stands = stands_take tb.bounds h.turns (place w i) w v h.stands t u.0; here = moved }
      where
        z' : d ≡ suc (d - 1)
        z' = omega arith

        u : (after_turns n all (suc h.turns) ≡ taken_by (place w i) (after_turns n all h.turns)) × At n all (place w) (suc h.turns) (suc (d - 1)) (i + 1)
        u = found_choice n all (place w) tb.order h.turns (d - 1) i (subst (λ (x : ℕ). At n all (place w) h.turns x i) z' h.here) b (sym left ∙ e ∙ z')

        moved : At n all (place v) (suc h.turns) d (i + 1)
        moved =
            let a : At n all (place w) (suc h.turns) d (i + 1) = subst (λ (x : ℕ). At n all (place w) (suc h.turns) x (i + 1)) (sym z') u.1 in
            record { upper = a.upper; passed = λ j k. rw (t.rest (od + j) (inr (omega (arith, tb.order_above)))) (a.passed j k) }

  pub levels_down : (w : List ℕ) (d i : ℕ) → Levels d i w → 0 < d → (i < n → of_group (place w i) all < d) → Levels (d - 1) 0 w
  levels_down w d i h z e = record {
    walk = h.walk;
    turns = h.turns;
    stands = h.stands;
    here = down n all (place w) h.walk.tables.order h.turns (d - 1) i (subst (λ (x : ℕ). At n all (place w) h.turns x i) z' h.here) (λ k. omega (arith, e k));
  }
    where
      z' : d ≡ suc (d - 1)
      z' = omega arith

  pub levels_end : (w : List ℕ) (i : ℕ) → Levels 0 i w → (g : ℕ) → g < n → marks w g ≡ cover n all g
  levels_end w i h g b =
      h.stands.marked g b
      ∙ at_end n all (place w) h.walk.tables.order (all_map (λ e j. j.0) all h.walk.tables.bounds) h.turns i h.here g

  pub levels_start : (w : List ℕ) (top : ℕ) → WalkTables w → RunStands 0 w → ((g : ℕ) → g < n → of_group g all ≤ top) → Levels top 0 w
  levels_start w top r s h = record { walk = record { tables = r; counts = s.counts }; turns = 0; stands = s; here = at-start n all (place w) r.order top h }
