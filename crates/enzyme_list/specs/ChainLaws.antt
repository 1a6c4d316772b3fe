-- Laws of a list of records that rises. Assumes nothing.
use Rattle.std.specs.Prelude.{ℕ, zero, suc, ◌-◌, ◌*◌, ◌≤◌, ◌<◌, ◌≡◌, refl, true, false, ◌⊎◌, List, [], ◌∷◌, ◌++◌, length, get_or, eqb}
use Rattle.std.proofs.Common.{sym, ap, ◌∙◌, inl, inr, ⊎_elim, append_assoc, arith, length-append, eq-eqb, ne_eqb}
use Rattle.std.proofs.Math.Bool.{or-true}
use Rattle.std.proofs.Math.ListN.{get_or-append}
use Rattle.std.proofs.lemmas.List.{get_or_at}
use Rattle.lists.specs.Tests.{below?, truth?}
use Rattle.lists.specs.Lists.{same}
use Rattle.lists.specs.SameLaws.{same_refl, same-eq}
use Rattle.enzyme_cuts.specs.Cutting.{Range, site, seen_in}
use Rattle.enzyme_cuts.specs.KeepLaws.{seen_in_append}
use Rattle.enzyme_keep.specs.Buffer.{range_at, ranges_in}
use Rattle.enzyme_keep.specs.BufferLaws.{length-ranges}
use Rattle.enzyme_list.specs.declared.walk.Place.{Place}
use Rattle.enzyme_list.specs.declared.walk.Place.TheVariants.{Same, Behind}
use Rattle.std.specs.declared.cmp.Ordering.{Ordering}
use Rattle.std.specs.declared.cmp.Ordering.TheVariants.{Less, Equal, Greater}
use Rattle.enzyme_order.specs.Order.{compared}
use Rattle.enzyme_order.specs.OrderLaws.{order_self, order_equal, order_flip, order_trans}
use Rattle.enzyme_list.specs.Chain.{record_text, next_of, LinkedThrough, last_record, Lower, Upper, Rises, ranges_of, Between, FoundAt, FoundIn, FoundFrom, Sought, EndsWithin, Begun, depth}

-- ---- record j as it is read

pub range-read : (count : ℕ) (out : List ℕ) (j : ℕ) → j < count → get_or (ranges_in count out) j (site 0 0) ≡ range_at out (20 * j)
range-read zero out j h = absurd (omega arith)
range-read (suc k) out j h = go (below? j k) (λ g. range-read k out j g)
  where
    l : length (ranges_in k out) ≡ k
    l = length-ranges k out

    go : (j < k) ⊎ (k ≤ j) → (j < k → get_or (ranges_in k out) j (site 0 0) ≡ range_at out (20 * j)) → get_or (ranges_in (suc k) out) j (site 0 0) ≡ range_at out (20 * j)
    go (inl g) ih = get_or-append (ranges_in k out) (range_at out (20 * k) ∷ []) (site 0 0) j (omega (arith, l)) ∙ ih g
    go (inr g) ih =
        let e : j ≡ k = omega arith in
        rw e (get_or_at (ranges_in k out) (range_at out (20 * k)) [] (site 0 0) k l)

pub next-first : (ls : List ℕ) (head p : ℕ) → p ≡ 0 → next_of ls head p ≡ head
next-first ls head p e = rw (eq-eqb p 0 e)

pub next_link : (ls : List ℕ) (head p : ℕ) → (p ≡ 0 → ⊥) → next_of ls head p ≡ get_or ls (p - 1) 0
next_link ls head p e = rw (ne_eqb p 0 e)

-- ---- the end of a walk

pub ends_within : (ls : List ℕ) (n t : ℕ) → 0 < t → EndsWithin ls n t → t ≤ length ls
ends_within ls n t h r = go r.0 r.1
  where
    go : (ys : List ℕ) → LinkedThrough ls t ys → t ≤ length ls
    go [] e = absurd (omega arith)
    go (u ∷ us) l = let e = l.0 in let k = l.2 in omega arith

pub ends_on : (ls : List ℕ) (n t : ℕ) → 0 < t → EndsWithin ls n t → EndsWithin ls n (get_or ls (t - 1) 0)
ends_on ls n t h r = go r.0 r.1 r.2
  where
    go : (ys : List ℕ) → LinkedThrough ls t ys → length ys ≤ n → EndsWithin ls n (get_or ls (t - 1) 0)
    go [] e k = absurd (omega arith)
    go (u ∷ us) l k = let e = l.0 in (us, rw e l.3, omega arith)

depth-length : (ls : List ℕ) (n t : ℕ) (ys : List ℕ) → LinkedThrough ls t ys → length ys ≤ n → depth ls t n ≡ length ys
depth-length ls zero t [] l h = refl
depth-length ls zero t (u ∷ us) l h = absurd (omega arith)
depth-length ls (suc n) t [] l h = rw (eq-eqb t 0 l)
depth-length ls (suc n) t (u ∷ us) l h =
    let e = l.0 in
    let p = l.1 in
    let z : eqb t 0 ≡ false = ne_eqb t 0 (λ y. omega arith) in
    let ih = depth-length ls n (get_or ls (u - 1) 0) us l.3 (omega arith) in
    rw (z, e, ih)

pub ends_less : (ls : List ℕ) (n t : ℕ) → 0 < t → EndsWithin ls n t → depth ls (get_or ls (t - 1) 0) n < depth ls t n
ends_less ls n t h r = go r.0 r.1 r.2
  where
    go : (ys : List ℕ) → LinkedThrough ls t ys → length ys ≤ n → depth ls (get_or ls (t - 1) 0) n < depth ls t n
    go [] e k = absurd (omega arith)
    go (u ∷ us) l k =
        let e = l.0 in
        let a = depth-length ls n t (u ∷ us) l k in
        let m : LinkedThrough ls (get_or ls (t - 1) 0) us = rw e l.3 in
        let b = depth-length ls n (get_or ls (t - 1) 0) us m (omega arith) in
        omega arith

-- ---- a walk

pub last_snoc : (p : ℕ) (xs : List ℕ) (t : ℕ) → last_record p (xs ++ (t ∷ [])) ≡ t
last_snoc p [] t = refl
last_snoc p (x ∷ xs) t = last_snoc x xs t

module _ (s : List ℕ) (ks : List Range) where
  lower_append : (new : List ℕ) (xs ys : List ℕ) → Lower s ks new xs → Lower s ks new ys → Lower s ks new (xs ++ ys)
  lower_append new [] ys p q = q
  lower_append new (x ∷ xs) ys p q = (p.0, lower_append new xs ys p.1 q)

  upper_trans : (a b : List ℕ) (ts : List ℕ) → compared a b ≡ Less → Upper s ks b ts → Upper s ks a ts
  upper_trans a b [] h u = tt
  upper_trans a b (t ∷ ts) h u = (order_trans a b (record_text s ks t) h u.0, upper_trans a b ts h u.1)

  pub ranges_append : (xs ys : List ℕ) → ranges_of ks (xs ++ ys) ≡ ranges_of ks xs ++ ranges_of ks ys
  ranges_append [] ys = refl
  ranges_append (x ∷ xs) ys = ap (λ (rs : List Range). get_or ks (x - 1) (site 0 0) ∷ rs) (ranges_append xs ys)

  pub seen_at : (new : List ℕ) (xs ys : List ℕ) (t : ℕ) → record_text s ks t ≡ new → seen_in s (ranges_of ks (xs ++ (t ∷ ys))) new ≡ true
  seen_at new xs ys t e =
      let z : same (record_text s ks t) new ≡ true = rw e (same_refl new) in
      rw (ranges_append xs (t ∷ ys), seen_in_append s (ranges_of ks xs) (ranges_of ks (t ∷ ys)) new, z) (or-true (seen_in s (ranges_of ks xs) new))

  module _ (ls new : List ℕ) where
    pub found_from-on : (prev t : ℕ) (r : Place) → 0 < t → compared (record_text s ks t) new ≡ Less → FoundFrom s ks ls new t (get_or ls (t - 1) 0) r → FoundFrom s ks ls new prev t r
    found_from-on prev t r h o told xs ys p q l k = go ys l k
      where
        go : (ys : List ℕ) → LinkedThrough ls t ys → Rises s ks ys → FoundIn s ks new (xs ++ ys) r
        go [] e k = absurd (omega arith)
        go (u ∷ us) l k =
            let e = l.0 in
            let m : LinkedThrough ls (get_or ls (t - 1) 0) us = rw e l.3 in
            let f : FoundIn s ks new ((xs ++ (t ∷ [])) ++ us) r = told (xs ++ (t ∷ [])) us (last_snoc 0 xs t) (lower_append new xs (t ∷ []) q (o, tt)) m k.1 in
            let g : FoundIn s ks new (xs ++ (t ∷ us)) r = rw (append_assoc xs (t ∷ []) us) at f in
            rw (← e) g

    pub found_from-same : (prev t : ℕ) → 0 < t → compared (record_text s ks t) new ≡ Equal → FoundFrom s ks ls new prev t (Same t)
    found_from-same prev t h o xs ys p q l k = go ys l
      where
        go : (ys : List ℕ) → LinkedThrough ls t ys → FoundAt s ks new (xs ++ ys) t
        go [] e = absurd (omega arith)
        go (u ∷ us) l =
            let e : u ≡ t = sym l.0 in
            record { xs = xs; ys = us; whole = ap (λ (v : ℕ). xs ++ (v ∷ us)) e; letters = order_equal (record_text s ks t) new o }

    pub found_from_stop : (prev t : ℕ) → 0 < t → compared (record_text s ks t) new ≡ Greater → FoundFrom s ks ls new prev t (Behind prev)
    found_from_stop prev t h o xs ys p q l k = record { xs = xs; ys = ys; whole = refl; last = p; lower = q; upper = go ys l k }
      where
        go : (ys : List ℕ) → LinkedThrough ls t ys → Rises s ks ys → Upper s ks new ys
        go [] e k = tt
        go (u ∷ us) l k =
            let e = l.0 in
            let d : compared new (record_text s ks u) ≡ Less = order_flip (record_text s ks u) new (rw (← e) o) in
            (d, upper_trans new (record_text s ks u) us d k.0)

    pub found_from_end : (prev : ℕ) → FoundFrom s ks ls new prev 0 (Behind prev)
    found_from_end prev xs ys p q l k = record { xs = xs; ys = ys; whole = refl; last = p; lower = q; upper = go ys l }
      where
        go : (ys : List ℕ) → LinkedThrough ls 0 ys → Upper s ks new ys
        go [] e = tt
        go (u ∷ us) l = let e = l.0 in let z = l.1 in absurd (omega arith)

-- ---- a search from within the list

pub linked_one : (ls : List ℕ) (h : ℕ) (c d : List ℕ) → LinkedThrough ls h c → LinkedThrough ls h d → c ≡ d
linked_one ls h [] [] p q = refl
linked_one ls h [] (u ∷ us) p q = let a = q.0 in let b = q.1 in absurd (omega arith)
linked_one ls h (t ∷ ts) [] p q = let a = p.0 in let b = p.1 in absurd (omega arith)
linked_one ls h (t ∷ ts) (u ∷ us) p q =
    let e : t ≡ u = sym p.0 ∙ q.0 in
    let m : LinkedThrough ls (get_or ls (u - 1) 0) ts = rw e at p.3 in
    let f = linked_one ls (get_or ls (u - 1) 0) ts us m q.3 in
    rw (e, f)

module _ (ls : List ℕ) (head : ℕ) where
  behind-from : (t : ℕ) (xs ys : List ℕ) → 0 < t → LinkedThrough ls (get_or ls (t - 1) 0) (xs ++ ys) → LinkedThrough ls (next_of ls head (last_record t xs)) ys
  behind-from t [] ys h l = rw (next_link ls head t (λ e. omega arith)) l
  behind-from t (u ∷ us) ys h l = behind-from u us ys l.1 l.3

  pub linked_behind : (xs ys : List ℕ) → LinkedThrough ls head (xs ++ ys) → LinkedThrough ls (next_of ls head (last_record 0 xs)) ys
  linked_behind [] ys l = rw (next-first ls head 0 refl) l
  linked_behind (t ∷ ts) ys l = behind-from t ts ys l.1 l.3

pub last-from : (ls : List ℕ) (h p : ℕ) (xs ys : List ℕ) → p ≤ length ls → LinkedThrough ls h (xs ++ ys) → last_record p xs ≤ length ls
last-from ls h p [] ys k l = k
last-from ls h p (u ∷ us) ys k l = last-from ls (get_or ls (u - 1) 0) u us ys l.2 l.3

rises_behind : (s : List ℕ) (ks : List Range) (xs ys : List ℕ) → Rises s ks (xs ++ ys) → Rises s ks ys
rises_behind s ks [] ys r = r
rises_behind s ks (x ∷ xs) ys r = rises_behind s ks xs ys r.1

module _ (s : List ℕ) (ks : List Range) (ls : List ℕ) (head p : ℕ) (new : List ℕ) (b : Begun s ks ls head p new) where
  begun_linked : LinkedThrough ls head (b.xs ++ b.ys)
  begun_linked = rw b.whole at b.listed.linked

  pub begun_within : p ≤ length ls
  begun_within = rw b.last at (last-from ls head 0 b.xs b.ys (omega arith) begun_linked)

  begun_behind : LinkedThrough ls (next_of ls head p) b.ys
  begun_behind = rw b.last at (linked_behind ls head b.xs b.ys begun_linked)

  pub begun_reach : EndsWithin ls (length ls) (next_of ls head p)
  begun_reach =
      let e = ap length b.whole ∙ length-append b.xs b.ys in
      let f = b.listed.few in
      (b.ys, begun_behind, omega arith)

  pub begun_sought : (r : Place) → FoundFrom s ks ls new p (next_of ls head p) r → Sought s ks ls head new r
  begun_sought r told c l =
      let e : c ≡ b.xs ++ b.ys = linked_one ls head c b.c l.linked b.listed.linked ∙ b.whole in
      let k : Rises s ks (b.xs ++ b.ys) = rw b.whole at b.listed.rises in
      rw e (told b.xs b.ys b.last b.lower begun_behind (rises_behind s ks b.xs b.ys k))

-- ---- who is not there

unlike : (a b : List ℕ) → (a ≡ b → ⊥) → same a b ≡ false
unlike a b h = ⊎_elim (λ (e : same a b ≡ true). absurd (h (same-eq a b e))) (λ (e : same a b ≡ false). e) (truth? (same a b))

pub below_unlike : (a b : List ℕ) → compared a b ≡ Less → a ≡ b → ⊥
below_unlike a b o e =
    let z : ◌≡◌ {A = Ordering} Equal Less = sym (order_self b) ∙ (rw e at o) in
    cc

module _ (s : List ℕ) (ks : List Range) (new : List ℕ) where
  lower_unseen : (xs : List ℕ) → Lower s ks new xs → seen_in s (ranges_of ks xs) new ≡ false
  lower_unseen [] h = refl
  lower_unseen (x ∷ xs) h = rw (unlike (record_text s ks x) new (below_unlike (record_text s ks x) new h.0), lower_unseen xs h.1)

  upper_unseen : (xs : List ℕ) → Upper s ks new xs → seen_in s (ranges_of ks xs) new ≡ false
  upper_unseen [] h = refl
  upper_unseen (x ∷ xs) h = rw (unlike (record_text s ks x) new (λ e. below_unlike new (record_text s ks x) h.0 (sym e)), upper_unseen xs h.1)

  -- where a place is found, no record of the list has the letters
  pub between_unseen : (c : List ℕ) (p : ℕ) → Between s ks new c p → seen_in s (ranges_of ks c) new ≡ false
  between_unseen c p b =
      rw (b.whole, ranges_append s ks b.xs b.ys, seen_in_append s (ranges_of ks b.xs) (ranges_of ks b.ys) new, lower_unseen b.xs b.lower)
      (upper_unseen b.ys b.upper)
