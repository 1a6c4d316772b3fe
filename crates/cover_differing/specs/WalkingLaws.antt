-- Laws of the passes along a group's records. Assumes nothing.
use Rattle.std.specs.Prelude.{ℕ, zero, suc, ◌+◌, ◌-◌, ◌*◌, ◌≤◌, ◌<◌, ◌≡◌, refl, Bool, true, false, cond, ◌||◌, List, [], ◌∷◌, length, get_or, set, eqb}
use Rattle.std.proofs.Common.{arith, add-zero, sym, ap, ◌∙◌, true≢false, inr, ⊎_elim, length-set, get_or-set_same, get_or-set_other, eq-eqb, ne_eqb}
use Rattle.std.proofs.lemmas.Bool.{false≢true, eqb-false}
use Rattle.lists.specs.Tests.{same?, truth?, neither, eqb-sym}
use Rattle.lists.specs.Lists.{bit}
use Rattle.lists.specs.FrameLaws.{Framed, framed_none, framed_then, framed_set}
use Rattle.lists.specs.KeepLaws.{count_append, count-le}
use Rattle.records.specs.Le.{number_at}
use Rattle.cover_spec.specs.Cover.{same_edge}
use Rattle.cover_edges.specs.Chains.{last_with}
use Rattle.cover_edges.specs.ChainLaws.{last-le, last_hit}
use Rattle.cover_edges.specs.Edges.{edge_at, edges_to}
use Rattle.cover_edges.specs.EdgeLaws.{length-edges}
use Rattle.cover_differing.specs.declared.links.Links.{Links}
use Rattle.cover_differing.specs.declared.passing.Pass.{Pass}
use Rattle.cover_differing.specs.declared.passing.Pass.TheVariants.{Up, Off, Clear}
use Rattle.cover_differing.specs.Walking.{of_pair, changed, telling, changed_by, telling_by, Walkable, Gone}

-- ---- how often an edge stands among the first records

pair_nil : (g m : ℕ) (bs : List ℕ) → of_pair g m bs 0 ≡ 0
unfolding of_pair edges_to
pair_nil g m bs = refl

pub pair-le : (g m : ℕ) (bs : List ℕ) (i : ℕ) → of_pair g m bs i ≤ i
unfolding of_pair
pair-le g m bs i = omega (arith, count-le (same_edge (g, m)) (edges_to bs i), length-edges bs i)

pair-more : (g m : ℕ) (bs : List ℕ) (i : ℕ) → of_pair g m bs (suc i) ≡ of_pair g m bs i + bit (same_edge (g, m) (edge_at bs i))
unfolding of_pair edges_to
pair-more g m bs i = omega (arith, count_append (same_edge (g, m)) (edges_to bs i) (edge_at bs i ∷ []))

-- the records after the last of group g do not count
pair_skip : (g m : ℕ) (bs : List ℕ) (i : ℕ) → of_pair g m bs i ≡ of_pair g m bs (last_with bs 0 g i)
unfolding last_with
pair_skip g m bs zero = refl
pair_skip g m bs (suc i) = go (eqb (number_at 4 bs (8 * i + 0)) g) refl (pair_skip g m bs i)
  where
    go : (b : Bool) → eqb (number_at 4 bs (8 * i + 0)) g ≡ b → of_pair g m bs i ≡ of_pair g m bs (last_with bs 0 g i) → of_pair g m bs (suc i) ≡ of_pair g m bs (cond b (suc i) (last_with bs 0 g i))
    go true e ih = refl
    go false e ih =
        let u : eqb g (number_at 4 bs (8 * i)) ≡ false = eqb-sym g (number_at 4 bs (8 * i)) ∙ (rw add-zero at e) in
        pair-more g m bs i ∙ rw u (omega arith)

pair_hit : (g m : ℕ) (bs : List ℕ) (h : ℕ) → 0 < h → number_at 4 bs (8 * (h - 1) + 0) ≡ g → of_pair g m bs h ≡ bit (eqb m (number_at 4 bs (8 * (h - 1) + 4))) + of_pair g m bs (h - 1)
pair_hit g m bs zero p e = absurd (omega arith)
pair_hit g m bs (suc i) p e =
    let z : suc i - 1 ≡ i = omega arith in
    let e' : number_at 4 bs (8 * i + 0) ≡ g = rw z at e in
    let u : eqb g (number_at 4 bs (8 * i)) ≡ true = eq-eqb g (number_at 4 bs (8 * i)) (sym (rw add-zero at e')) in
    rw z (pair-more g m bs i ∙ rw u (omega arith))

-- ---- a pass on its way: h is one more than the next record

changed-le : (p : Pass) (v : ℕ) → changed p v ≤ v + 1
changed-le Up v = omega arith
changed-le Off v = omega arith
changed-le Clear v = omega arith

-- what the records before h still do gives the whole
pub record OnTheWay (p : Pass) (t : Links) (bs : List ℕ) (g : ℕ) (w₀ w : List ℕ) (told : Bool) (h : ℕ) : Type 0 where
  pub long : length w ≡ length w₀
  pub within : h ≤ t.records
  pub hit : 0 < h → number_at 4 bs (8 * (h - 1) + 0) ≡ g
  pub small : (m : ℕ) → m < t.metas → get_or w m 0 + of_pair g m bs h ≤ 2097152
  pub counts : (m : ℕ) → m < t.metas → changed_by p (of_pair g m bs h) (get_or w m 0) ≡ changed_by p (of_pair g m bs t.records) (get_or w₀ m 0)
  pub one : told ≡ true → (m : ℕ) × (m < t.metas) × (telling_by p (of_pair g m bs t.records) (get_or w₀ m 0) ≡ true)
  pub none : told ≡ false → (m : ℕ) → m < t.metas → telling_by p (of_pair g m bs h) (get_or w m 0) ≡ telling_by p (of_pair g m bs t.records) (get_or w₀ m 0)
  pub rest : Framed 0 t.metas w₀ w

pub pass-start : {p : Pass} {t : Links} {bs : List ℕ} {g h : ℕ} {w₀ : List ℕ} → Walkable t bs w₀ → g < t.groups → ((m : ℕ) → m < t.metas → get_or w₀ m 0 ≤ 1048576) → h ≡ get_or w₀ (t.heads + g) 0 → OnTheWay p t bs g w₀ w₀ false h
pass-start {p} {t} {bs} {g} {h} {w₀} a lg few e =
    let e' : h ≡ last_with bs 0 g t.records = e ∙ a.chains.heads g lg in
    let all : (m : ℕ) → of_pair g m bs h ≡ of_pair g m bs t.records = λ m. ap (of_pair g m bs) e' ∙ sym (pair_skip g m bs t.records) in
    record {
      long = refl;
      within = omega (arith, last-le bs 0 g t.records);
      hit = λ l. rw e' (last_hit bs 0 g t.records (omega arith));
      small = λ m l. omega (arith, few m l, all m, pair-le g m bs t.records, a.few);
      counts = λ m l. ap (λ (k : ℕ). changed_by p k (get_or w₀ m 0)) (all m);
      one = λ z. absurd (false≢true z);
      none = λ z m l. ap (λ (k : ℕ). telling_by p k (get_or w₀ m 0)) (all m);
      rest = framed_none 0 t.metas w₀;
    }

module _ {p : Pass} {t : Links} {bs : List ℕ} {g : ℕ} {w₀ w : List ℕ} {told : Bool} {h m : ℕ} (a : Walkable t bs w₀) (k : OnTheWay p t bs g w₀ w told h) (l : 0 < h)
    (e : m ≡ number_at 4 bs (8 * (h - 1) + 4)) where
  inside : m < t.metas
  inside = omega (arith, (a.inside (h - 1) (omega (arith, k.within))).1)

  -- the record's meta-peptide has a count, to which one can be added
  pub meta_in : m < length w
  meta_in = omega (arith, inside, a.above, a.order, a.room, k.long)

  pub meta-small : get_or w m 0 < 4294967295
  meta-small = omega (arith, k.small m inside)

  module _ {v : ℕ} (f : v ≡ changed p (get_or w m 0)) where
    abbrev after : List ℕ
    after = set w m v

    abbrev next : ℕ
    next = get_or after (t.nexts + (h - 1)) 0

    pub next_in : t.nexts + (h - 1) < length after
    next_in = simp length-set (omega (arith, a.room, k.within, k.long))

    other : (x : ℕ) → (x ≡ m → ⊥) → get_or after x 0 ≡ get_or w x 0
    other x u = get_or-set_other w m x v 0 u

    next_is : next ≡ last_with bs 0 g (h - 1)
    next_is =
        other (t.nexts + (h - 1)) (λ z. omega (arith, inside, a.above, a.order))
        ∙ k.rest (t.nexts + (h - 1)) (inr (omega (arith, a.above, a.order)))
        ∙ a.chains.nexts (h - 1) (omega (arith, k.within))
        ∙ ap (λ (x : ℕ). last_with bs 0 x (h - 1)) (k.hit l)

    pub next_falls : next < h
    next_falls = omega (arith, next_is, last-le bs 0 g (h - 1))

    -- the record counts for its meta-peptide and no other
    passes : (x : ℕ) → of_pair g x bs h ≡ bit (eqb x m) + of_pair g x bs next
    passes x = pair_hit g x bs h l (k.hit l) ∙ rw (← e) (ap (λ (r : ℕ). bit (eqb x m) + r) (pair_skip g x bs (h - 1) ∙ ap (of_pair g x bs) (sym next_is)))

    one_less : of_pair g m bs h ≡ suc (of_pair g m bs next)
    one_less = passes m ∙ rw (eq-eqb m m refl) (omega arith)

    as_many : (x : ℕ) → (x ≡ m → ⊥) → of_pair g x bs next ≡ of_pair g x bs h
    as_many x u = sym (passes x ∙ rw (ne_eqb x m u) (omega arith))

    -- what holds of the records left and of the count, at each meta-peptide
    each : (P : ℕ → ℕ → ℕ → Type 0) → P m (of_pair g m bs next) (changed p (get_or w m 0)) → ((x : ℕ) → x < t.metas → P x (of_pair g x bs h) (get_or w x 0)) → (x : ℕ) → x < t.metas → P x (of_pair g x bs next) (get_or after x 0)
    each P y n x b =
        ⊎_elim (λ (z : x ≡ m). rw (z, get_or-set_same w m v 0 meta_in ∙ f) y)
        (λ (u : x ≡ m → ⊥). rw (other x u, as_many x u) (n x b)) (same? x m)

    pub pass-turn : OnTheWay p t bs g w₀ after (told || telling p (get_or w m 0)) next
    pass-turn = record {
      long = length-set w m v ∙ k.long;
      within = omega (arith, next_falls, k.within);
      hit = λ q. rw next_is (last_hit bs 0 g (h - 1) (omega (arith, next_is)));
      small = each (λ x r c. c + r ≤ 2097152) (omega (arith, changed-le p (get_or w m 0), one_less, k.small m inside)) k.small;
      counts = each (λ x r c. changed_by p r c ≡ changed_by p (of_pair g x bs t.records) (get_or w₀ x 0)) (rw one_less at (k.counts m inside)) k.counts;
      one = λ z. ⊎_elim (λ (y : told ≡ true). k.one y) (λ (y : told ≡ false). (m, inside, sym (k.none y m inside) ∙ rw (one_less, from told (telling p (get_or w m 0)) y z))) (truth? told);
      none = λ z. let (y, q) = neither told (telling p (get_or w m 0)) z in
          each (λ x r c. telling_by p r c ≡ telling_by p (of_pair g x bs t.records) (get_or w₀ x 0)) (rw (one_less, q) at (k.none y m inside)) (k.none y);
      rest = framed_then 0 t.metas w₀ w after k.rest (framed_set 0 t.metas m v w (omega arith) inside);
    }
      where
        from : (b c : Bool) → b ≡ false → (b || c) ≡ true → c ≡ true
        from true c y z = absurd (true≢false y)
        from false c y z = z

pub pass_end : {p : Pass} {t : Links} {bs : List ℕ} {g : ℕ} {w₀ w : List ℕ} {told : Bool} {h : ℕ} → OnTheWay p t bs g w₀ w told h → h ≡ 0 → Gone p t bs g w₀ w told
pass_end {p} {t} {bs} {g} {w₀} {w} {told} {h} k z =
    let none : (m : ℕ) → of_pair g m bs h ≡ 0 = λ m. ap (of_pair g m bs) z ∙ pair_nil g m bs in
    record {
      counts = λ m l. sym (ap (λ (r : ℕ). changed_by p r (get_or w m 0)) (none m)) ∙ k.counts m l;
      one = k.one;
      none = λ e m l. sym (k.none e m l) ∙ ap (λ (r : ℕ). telling_by p r (get_or w m 0)) (none m);
      rest = k.rest;
    }

-- ---- what the passes come to

pub up-all : (k v : ℕ) → changed_by Up k v ≡ v + k
up-all zero v = omega arith
up-all (suc k) v = up-all k (v + 1) ∙ omega arith

pub off_all : (k v : ℕ) → changed_by Off k v ≡ v - k
off_all zero v = omega arith
off_all (suc k) v = off_all k (v - 1) ∙ omega arith

-- taken off below zero
pub off_yes : (k v : ℕ) → telling_by Off k v ≡ true → v < k
off_yes zero v e = absurd (false≢true e)
off_yes (suc k) v e = ⊎_elim (λ (z : v ≡ 0). omega arith) (λ (u : v ≡ 0 → ⊥). omega (arith, off_yes k (v - 1) (rw (ne_eqb v 0 u) at e))) (same? v 0)

pub off_no : (k v : ℕ) → telling_by Off k v ≡ false → k ≤ v
off_no zero v e = omega arith
off_no (suc k) v e = let (a, b) = neither (eqb v 0) (telling_by Off k (v - 1)) e in omega (arith, eqb-false v 0 a, off_no k (v - 1) b)

-- cleared
pub clear_none : (k : ℕ) → changed_by Clear k 0 ≡ 0
clear_none zero = refl
clear_none (suc k) = clear_none k

pub clear-all : (k v : ℕ) → (k ≡ 0 → v ≡ 0) → changed_by Clear k v ≡ 0
clear-all zero v h = h refl
clear-all (suc k) v h = clear_none k

still : (k : ℕ) → telling_by Clear k 0 ≡ false
still zero = refl
still (suc k) = still k

pub clear_yes : (k v : ℕ) → telling_by Clear k v ≡ true → 0 < v
clear_yes k zero e = absurd (false≢true (sym (still k) ∙ e))
clear_yes k (suc v) e = omega arith

pub clear_no : (k v : ℕ) → 0 < k → telling_by Clear k v ≡ false → v ≡ 0
clear_no zero v l e = absurd (omega arith)
clear_no (suc k) v l e = ⊎_elim (λ (z : v ≡ 0). z) (λ (u : v ≡ 0 → ⊥). absurd (true≢false (rw (ne_eqb v 0 u) at e))) (same? v 0)
