-- The first pass: a group that holds the only edge of a meta-peptide is marked, and its meta-peptides are covered. Assumes nothing.
use Rattle.std.specs.Prelude.{◌≡◌, refl, Bool, not, ◌&&◌, List, [], ◌∷◌, ℕ, zero, suc, ◌+◌, ◌-◌, ◌*◌, ◌≤◌, ◌<◌, ltb, length, set}
use Rattle.std.proofs.Common.{sym, ◌∙◌, inr, arith, zero-add, add-one}
use Rattle.std.proofs.Math.Path.{ap, subst}
use Rattle.std.proofs.Math.Bool.{true, false, cond, and_comm}
use Rattle.std.proofs.Math.Dec.{eqb}
use Rattle.std.proofs.Math.ListN.{get_or, length-set}
use Rattle.std.proofs.Math.Seq.{get_or-set_same, get_or-set_other}
use borrow.Author.Tests.{eqb-true, eqb-false, lt-ltb}
use Rattle.cover_tables.specs.declared.areas.Areas.{Areas}
use Rattle.cover_tables.specs.StepLaws.{WalkTables, tables-same, RunStands, Levels, levels_start}
use Rattle.lists.specs.Lists.{bit, count, keep}
use Rattle.lists.specs.FrameLaws.{Framed, framed_none, framed_then, framed_within, framed_set}
use Rattle.lists.specs.KeepLaws.{count-keep, count-le, count_append}
use Rattle.records.specs.Le.{number_at}
use Rattle.cover_spec.specs.Cover.{Edge, group, meta, of_group, of_meta, pass, mark_forced, cover_marked, start}
use Rattle.cover_spec.specs.TrimLaws.{iter}
use Rattle.cover_edges.specs.Edges.{edge_at, edges_to}
use Rattle.cover_edges.specs.RangeLaws.{InRange}
use Rattle.cover_edges.specs.EdgeLaws.{length-edges}

-- ---- the fields of the records

abbrev pub group_at : List ℕ → ℕ → ℕ
group_at bs i = number_at 4 bs (8 * i)

abbrev pub meta_at : List ℕ → ℕ → ℕ
meta_at bs i = number_at 4 bs (8 * i + 4)

-- ---- of k things those that are on aim at an entry: how often it is aimed at, and whether it is

unfoldable pub aimed_times : (ℕ → ℕ) → (ℕ → Bool) → ℕ → ℕ → ℕ
aimed_times aim on zero y = 0
aimed_times aim on (suc k) y = bit (eqb (aim k) y && on k) + aimed_times aim on k y

aimed_times-le : (aim : ℕ → ℕ) (on : ℕ → Bool) (k y : ℕ) → aimed_times aim on k y ≤ k
unfolding aimed_times
aimed_times-le aim on zero y = omega arith
aimed_times-le aim on (suc k) y = go (eqb (aim k) y && on k) (aimed_times-le aim on k y)
  where
    go : (b : Bool) → aimed_times aim on k y ≤ k → bit b + aimed_times aim on k y ≤ suc k
    go true h = omega arith
    go false h = omega arith

aimed_times-count : (p : Edge → Bool) (bs : List ℕ) (aim : ℕ → ℕ) (on : ℕ → Bool) (k y : ℕ) → ((i : ℕ) → i < k → (eqb (aim i) y && on i) ≡ p (edge_at bs i)) → aimed_times aim on k y ≡ count p (edges_to bs k)
unfolding aimed_times edges_to
aimed_times-count p bs aim on zero y h = refl
aimed_times-count p bs aim on (suc k) y h =
    omega (arith, ap bit (h k (omega arith)), aimed_times-count p bs aim on k y (λ i b. h i (omega arith)), count_append p (edges_to bs k) (edge_at bs k ∷ []))

abbrev pub aimed_at : (ℕ → ℕ) → (ℕ → Bool) → ℕ → ℕ → Bool
aimed_at aim on k y = ltb 0 (aimed_times aim on k y)

-- ---- flags: the entries that are aimed at

module _ (base len : ℕ) (aim : ℕ → ℕ) (on : ℕ → Bool) (w₀ : List ℕ) where
  pub record Flags (w : List ℕ) (i : ℕ) : Type 0 where
    pub size : length w ≡ length w₀
    pub flags : (y : ℕ) → y < len → eqb (get_or w (base + y) 0) 1 ≡ aimed_at aim on i y
    pub rest : Framed base (base + len) w₀ w

  pub flags_start : ((y : ℕ) → y < len → get_or w₀ (base + y) 0 ≡ 0) → Flags w₀ 0
  unfolding aimed_times
  flags_start h = record { size = refl; flags = λ y b. rw (h y b); rest = framed_none base (base + len) w₀ }

  flags_step : (w : List ℕ) (i v : ℕ) → Flags w i → aim i < len → base + len ≤ length w → v ≡ cond (on i) 1 (get_or w (base + aim i) 0) → Flags (set w (base + aim i) v) (i + 1)
  unfolding aimed_times
  flags_step w i v h b c e = record {
    size = simp length-set h.size;
    flags = λ y d. rw (add-one i) (one y d (eqb (aim i) y) refl);
    rest = framed_then base (base + len) w₀ w (set w (base + aim i) v) h.rest (framed_set base (base + len) (base + aim i) v w (omega arith) (omega arith));
  }
    where
      val : (t : Bool) → on i ≡ t → v ≡ cond t 1 (get_or w (base + aim i) 0)
      val t q = e ∙ ap (λ (s : Bool). cond s 1 (get_or w (base + aim i) 0)) q

      at_aim : (t : Bool) → on i ≡ t → eqb v 1 ≡ ltb 0 (bit t + aimed_times aim on i (aim i))
      at_aim true q = ap (λ (z : ℕ). eqb z 1) (val true q) ∙ sym (lt-ltb 0 (1 + aimed_times aim on i (aim i)) (omega arith))
      at_aim false q = ap (λ (z : ℕ). eqb z 1) (val false q) ∙ h.flags (aim i) b ∙ ap (ltb 0) (sym (zero-add (aimed_times aim on i (aim i))))

      one : (y : ℕ) → y < len → (t : Bool) → eqb (aim i) y ≡ t → eqb (get_or (set w (base + aim i) v) (base + y) 0) 1 ≡ ltb 0 (bit (t && on i) + aimed_times aim on i y)
      one y d true q =
          subst (λ (z : ℕ). eqb (get_or (set w (base + aim i) v) (base + z) 0) 1 ≡ ltb 0 (bit (on i) + aimed_times aim on i z)) (eqb-true (aim i) y q)
          (ap (λ (z : ℕ). eqb z 1) (get_or-set_same w (base + aim i) v 0 (omega arith)) ∙ at_aim (on i) refl)
      one y d false q =
          ap (λ (z : ℕ). eqb z 1) (get_or-set_other w (base + aim i) (base + y) v 0 (λ z. eqb-false (aim i) y q (omega arith))) ∙ h.flags y d ∙ ap (ltb 0) (sym (zero-add (aimed_times aim on i y)))

-- ---- counts: how often the entries are aimed at

module _ (len : ℕ) (aim : ℕ → ℕ) (on : ℕ → Bool) (w₀ : List ℕ) where
  pub record Raised (w : List ℕ) (i : ℕ) : Type 0 where
    pub size : length w ≡ length w₀
    pub counts : (y : ℕ) → y < len → get_or w y 0 ≡ aimed_times aim on i y
    pub rest : Framed 0 len w₀ w

  pub raised-start : ((y : ℕ) → y < len → get_or w₀ y 0 ≡ 0) → Raised w₀ 0
  unfolding aimed_times
  raised-start h = record { size = refl; counts = h; rest = framed_none 0 len w₀ }

  raised_room : (w : List ℕ) (i : ℕ) → Raised w i → aim i < len → get_or w (aim i) 0 ≤ i
  raised_room w i h b = omega (arith, h.counts (aim i) b, aimed_times-le aim on i (aim i))

  raised_step : (w : List ℕ) (i v : ℕ) → Raised w i → aim i < len → len ≤ length w → v ≡ bit (on i) → Raised (set w (aim i) (get_or w (aim i) 0 + v)) (i + 1)
  unfolding aimed_times
  raised_step w i v h b c e = record {
    size = simp length-set h.size;
    counts = λ y d. rw (add-one i) (one y d (eqb (aim i) y) refl);
    rest = framed_then 0 len w₀ w (set w (aim i) (get_or w (aim i) 0 + v)) h.rest (framed_set 0 len (aim i) (get_or w (aim i) 0 + v) w (omega arith) b);
  }
    where
      one : (y : ℕ) → y < len → (t : Bool) → eqb (aim i) y ≡ t → get_or (set w (aim i) (get_or w (aim i) 0 + v)) y 0 ≡ bit (t && on i) + aimed_times aim on i y
      one y d true q =
          subst (λ (z : ℕ). get_or (set w (aim i) (get_or w (aim i) 0 + v)) z 0 ≡ bit (on i) + aimed_times aim on i z) (eqb-true (aim i) y q)
          (omega (arith, get_or-set_same w (aim i) (get_or w (aim i) 0 + v) 0 (omega arith), h.counts (aim i) b))
      one y d false q = omega (arith, get_or-set_other w (aim i) y (get_or w (aim i) 0 + v) 0 (λ z. eqb-false (aim i) y q (sym z)), h.counts y d)

-- ---- the first pass

-- edge i is the only one of its meta-peptide; its group is marked; its meta-peptide is not covered
abbrev pub only_edge : ℕ → List ℕ → List ℕ → ℕ → Bool
only_edge mo bs w i = eqb (get_or w (mo + meta_at bs i + 1) 0 - get_or w (mo + meta_at bs i) 0) 1

abbrev pub in_marked : ℕ → ℕ → List ℕ → List ℕ → ℕ → Bool
in_marked n m bs w i = eqb (get_or w (n + m + group_at bs i) 0) 1

abbrev pub is_open : ℕ → List ℕ → List ℕ → ℕ → Bool
is_open n bs w i = not (eqb (get_or w (n + meta_at bs i) 0) 1)

-- after the first i edges: the meta-peptides of marked groups are covered; the edges of uncovered meta-peptides are counted
abbrev pub Covered : ℕ → ℕ → List ℕ → List ℕ → List ℕ → ℕ → Type 0
Covered n m bs w v i = Flags n m (meta_at bs) (in_marked n m bs w) w v i

abbrev pub OpenCounted : ℕ → List ℕ → List ℕ → List ℕ → ℕ → Type 0
OpenCounted n bs w v i = Raised n (group_at bs) (is_open n bs w) w v i

module _ (areas : Areas) where
  abbrev n : ℕ
  n = areas.groups

  abbrev m : ℕ
  m = areas.metas

  abbrev mo : ℕ
  mo = areas.mo

  -- after the first i edges the groups of only edges are marked
  abbrev pub Forced : List ℕ → List ℕ → List ℕ → ℕ → Type 0
  Forced bs w v i = Flags (n + m) n (group_at bs) (only_edge mo bs w) w v i

  -- what the pass starts from: the tables of k edges, and nothing counted, covered or marked
  abbrev pub Unmarked : List ℕ → ℕ → List ℕ → Type 0
  Unmarked bs k w = WalkTables areas (edges_to bs k) w × InRange bs k n m × ((x : ℕ) → x < n + m + n → get_or w x 0 ≡ 0) × (k ≤ 1048576)

  module _ (bs : List ℕ) (k : ℕ) where
    abbrev edges : List Edge
    edges = edges_to bs k

    module _ (w w₁ w₂ w₃ : List ℕ) (r : WalkTables areas edges w) (i : InRange bs k n m)
        (f₁ : Forced bs w w₁ k) (f₂ : Covered n m bs w₁ w₂ k) (f₃ : OpenCounted n bs w₂ w₃ k) where
      degree-meta : (x : ℕ) → x < m → get_or w (mo + x + 1) 0 - get_or w (mo + x) 0 ≡ of_meta x edges
      degree-meta x b = omega (arith, r.by_meta.sizes x b)

      marked-first : (g : ℕ) → g < n → eqb (get_or w₁ (n + m + g) 0) 1 ≡ mark_forced (start edges) g
      unfolding mark_forced
      marked-first g b =
          f₁.flags g b
          ∙ ap (ltb 0) (aimed_times-count (λ e. eqb (group e) g && eqb (of_meta (meta e) edges) 1) bs (group_at bs) (only_edge mo bs w) k g
          (λ j c. ap (λ (z : ℕ). eqb (group_at bs j) g && eqb z 1) (degree-meta (meta_at bs j) (i j c).1)))

      covered-first : (y : ℕ) → y < m → eqb (get_or w₂ (n + y) 0) 1 ≡ cover_marked (start edges) y
      unfolding cover_marked
      covered-first y b =
          f₂.flags y b
          ∙ ap (ltb 0) (aimed_times-count (λ e. eqb (meta e) y && mark_forced (start edges) (group e)) bs (meta_at bs) (in_marked n m bs w₁) k y
          (λ j c. ap (λ (z : Bool). eqb (meta_at bs j) y && z) (marked-first (group_at bs j) (i j c).0)))

      same-covers : (y : ℕ) → get_or w₃ (n + y) 0 ≡ get_or w₂ (n + y) 0
      same-covers y = f₃.rest (n + y) (inr (omega arith))

      first_counts : (g : ℕ) → g < n → get_or w₃ g 0 ≡ of_group g (keep (λ e. not (eqb (get_or w₃ (n + meta e) 0) 1)) edges)
      first_counts g b =
          f₃.counts g b
          ∙ aimed_times-count (λ e. not (eqb (get_or w₃ (n + meta e) 0) 1) && eqb (group e) g) bs (group_at bs) (is_open n bs w₂) k g
          (λ j c. and_comm (eqb (group_at bs j) g) (is_open n bs w₂ j) ∙ ap (λ (z : ℕ). not (eqb z 1) && eqb (group_at bs j) g) (sym (same-covers (meta_at bs j))))
          ∙ sym (count-keep (λ e. eqb (group e) g) (λ e. not (eqb (get_or w₃ (n + meta e) 0) 1)) edges)

      first_stands : RunStands areas edges 0 w₃
      unfolding iter pass
      first_stands = record {
        counts = first_counts;
        covered = λ y b. ap (λ (z : ℕ). eqb z 1) (same-covers y) ∙ covered-first y b;
        marked = λ g b. ap (λ (z : ℕ). eqb z 1) (f₃.rest (n + m + g) (inr (omega arith)) ∙ f₂.rest (n + m + g) (inr (omega arith))) ∙ marked-first g b;
      }

      first-tables : WalkTables areas edges w₃
      first-tables = tables-same areas edges w w₃ (f₃.size ∙ f₂.size ∙ f₁.size)
          (framed_then 0 (n + m + n) w w₂ w₃ (framed_then 0 (n + m + n) w w₁ w₂ (framed_within 0 (n + m) (n + m + n) (n + m + n) w w₁ (omega arith) (omega arith) f₁.rest) (framed_within 0 n (n + m) (n + m + n) w₁ w₂ (omega arith) (omega arith) f₂.rest)) (framed_within 0 0 n (n + m + n) w₂ w₃ (omega arith) (omega arith) f₃.rest)) r

      pub first_levels : Levels areas edges k 0 w₃
      first_levels = levels_start areas edges w₃ k first-tables first_stands
          (λ g b. omega (arith, count-le (λ e. eqb (group e) g) edges, length-edges bs k))

  -- one turn of the loop that marks
  module _ (bs : List ℕ) (k : ℕ) (w₀ : List ℕ) (inp : InRange bs k n m) (w : List ℕ) (i : ℕ) (b : i < k)
      (r : WalkTables areas (edges_to bs k) w₀) (h : Forced bs w₀ w i) where
    same_at : (x : ℕ) → n + m + n ≤ x → get_or w x 0 ≡ get_or w₀ x 0
    same_at x c = h.rest x (inr c)

    pub forced_inside : (n + m + group_at bs i < length w) × (mo + meta_at bs i + 1 < length w) × (get_or w (mo + meta_at bs i) 0 ≤ get_or w (mo + meta_at bs i + 1) 0)
    forced_inside = (
      omega (arith, (inp i b).0, r.order_above, r.order-fits, h.size),
      omega (arith, (inp i b).1, r.by_meta.fits, h.size),
      omega (arith, same_at (mo + meta_at bs i) (omega (arith, r.by_meta.above)), same_at (mo + meta_at bs i + 1) (omega (arith, r.by_meta.above)), r.by_meta.sizes (meta_at bs i) (inp i b).1),
    )

    pub forced_step : (v : ℕ) → v ≡ cond (eqb (get_or w (mo + meta_at bs i + 1) 0 - get_or w (mo + meta_at bs i) 0) 1) 1 (get_or w (n + m + group_at bs i) 0) → Forced bs w₀ (set w (n + m + group_at bs i) v) (i + 1)
    forced_step v e = flags_step (n + m) n (group_at bs) (only_edge mo bs w₀) w₀ w i v h (inp i b).0 (omega (arith, r.order_above, r.order-fits, h.size))
        (e ∙ rw (same_at (mo + meta_at bs i) (omega (arith, r.by_meta.above)), same_at (mo + meta_at bs i + 1) (omega (arith, r.by_meta.above))))

-- ---- one turn of the loops that cover and count

module _ (n m : ℕ) (bs : List ℕ) (k : ℕ) (w₀ : List ℕ) (inp : InRange bs k n m) (w : List ℕ) (i : ℕ) (b : i < k) where
  pub covered_inside : n + m + n ≤ length w₀ → Covered n m bs w₀ w i → (n + m + group_at bs i < length w) × (n + meta_at bs i < length w)
  covered_inside c h = (omega (arith, (inp i b).0, h.size), omega (arith, (inp i b).1, h.size))

  pub covered_step : n + m + n ≤ length w₀ → Covered n m bs w₀ w i → (v : ℕ) → v ≡ cond (eqb (get_or w (n + m + group_at bs i) 0) 1) 1 (get_or w (n + meta_at bs i) 0) → Covered n m bs w₀ (set w (n + meta_at bs i) v) (i + 1)
  covered_step c h v e = flags_step n m (meta_at bs) (in_marked n m bs w₀) w₀ w i v h (inp i b).1 (omega (arith, h.size))
      (e ∙ rw (h.rest (n + m + group_at bs i) (inr (omega arith))))

  pub counted_inside : n + m ≤ length w₀ → OpenCounted n bs w₀ w i → (group_at bs i < length w) × (n + meta_at bs i < length w) × (get_or w (group_at bs i) 0 ≤ i)
  counted_inside c h = (omega (arith, (inp i b).0, h.size), omega (arith, (inp i b).1, h.size), raised_room n (group_at bs) (is_open n bs w₀) w₀ w i h (inp i b).0)

  pub counted_step : n + m ≤ length w₀ → OpenCounted n bs w₀ w i → (v : ℕ) → v ≡ bit (not (eqb (get_or w (n + meta_at bs i) 0) 1)) → OpenCounted n bs w₀ (set w (group_at bs i) (get_or w (group_at bs i) 0 + v)) (i + 1)
  counted_step c h v e = raised_step n (group_at bs) (is_open n bs w₀) w₀ w i v h (inp i b).0 (omega (arith, h.size)) (e ∙ rw (h.rest (n + meta_at bs i) (inr (omega arith))))
