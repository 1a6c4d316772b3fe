-- With one more record in its place the list still rises, and it has exactly that one more. Assumes nothing.
use Rattle.std.specs.Prelude.{ℕ, suc, ◌-◌, ◌≤◌, ◌<◌, ◌≡◌, refl, Bool, true, false, cond, List, [], ◌∷◌, ◌++◌, length, get_or, set, eqb}
use Rattle.std.proofs.Common.{sym, subst, ap, ◌∙◌, arith, length-append, length-set, get_or-set_same, get_or-set_other, eq-eqb, ne_eqb}
use Rattle.std.proofs.Math.ListN.{get_or-append}
use Rattle.std.proofs.lemmas.List.{get_or_at}
use Rattle.enzyme_cuts.specs.Cutting.{Range, site, part}
use Rattle.std.specs.declared.cmp.Ordering.TheVariants.{Less}
use Rattle.enzyme_order.specs.Order.{compared}
use Rattle.enzyme_list.specs.Chain.{record_text, next_of, LinkedThrough, last_record, Lower, Upper, Rises, ListFrom, PlaceFor, links_with, head_with}
use Rattle.enzyme_list.specs.ChainLaws.{below_unlike, last-from, linked_behind}

-- ---- links

pub linked_grown : (ls : List ℕ) (x h : ℕ) (c : List ℕ) → LinkedThrough ls h c → LinkedThrough (ls ++ (x ∷ [])) h c
linked_grown ls x h [] l = l
linked_grown ls x h (t ∷ ts) l =
    let p = l.1 in let q = l.2 in
    let n = length-append ls (x ∷ []) in
    (l.0, l.1, omega arith, rw (get_or-append ls (x ∷ []) 0 (t - 1) (omega arith)) (linked_grown ls x (get_or ls (t - 1) 0) ts l.3))

-- none of the records is p
abbrev Others : ℕ → List ℕ → Type 0
Others p [] = Unit {0}
Others p (t ∷ ts) = (t ≡ p → ⊥) × Others p ts

linked_set : (ls : List ℕ) (p v h : ℕ) (c : List ℕ) → 0 < p → Others p c → LinkedThrough ls h c → LinkedThrough (set ls (p - 1) v) h c
linked_set ls p v h [] k o l = l
linked_set ls p v h (t ∷ ts) k o l =
    let a = l.1 in let b = l.2 in
    let n = length-set ls (p - 1) v in
    let g : get_or (set ls (p - 1) v) (t - 1) 0 ≡ get_or ls (t - 1) 0 = get_or-set_other ls (p - 1) (t - 1) v 0 (λ e. o.0 (omega arith)) in
    (l.0, l.1, omega arith, rw g (linked_set ls p v (get_or ls (t - 1) 0) ts k o.1 l.3))

module _ (s : List ℕ) (ks : List Range) where
  upper_others : (p : ℕ) (ys : List ℕ) → Upper s ks (record_text s ks p) ys → Others p ys
  upper_others p [] u = tt
  upper_others p (y ∷ ys) u =
      (λ e. below_unlike (record_text s ks p) (record_text s ks y) u.0 (ap (record_text s ks) (sym e)), upper_others p ys u.1)

  upper_last : (a : List ℕ) (u : ℕ) (xs ys : List ℕ) → Upper s ks a (u ∷ (xs ++ ys)) → compared a (record_text s ks (last_record u xs)) ≡ Less
  upper_last a u [] ys h = h.0
  upper_last a u (x ∷ xs) ys h = upper_last a x xs ys h.1

  last-pos : (t : ℕ) (ls : List ℕ) (h : ℕ) (xs ys : List ℕ) → 0 < t → LinkedThrough ls h (xs ++ ys) → 0 < last_record t xs
  last-pos t ls h [] ys k l = k
  last-pos t ls h (x ∷ xs) ys k l = last-pos x ls (get_or ls (x - 1) 0) xs ys l.1 l.3

  -- record v, whose link is the old one of the last of t and xs, behind that last
  splice : (ls : List ℕ) (v t : ℕ) (xs ys : List ℕ) (h : ℕ) → 0 < v → v ≤ length ls → last_record t xs < v → get_or ls (v - 1) 0 ≡ get_or ls (last_record t xs - 1) 0
      → LinkedThrough ls h (t ∷ (xs ++ ys)) → Rises s ks (t ∷ (xs ++ ys)) → LinkedThrough (set ls (last_record t xs - 1) v) h (t ∷ (xs ++ (v ∷ ys)))
  splice ls v t [] ys h a b d e l r =
      let n = length-set ls (t - 1) v in
      let p = l.1 in let q = l.2 in
      let f : get_or (set ls (t - 1) v) (t - 1) 0 ≡ v = get_or-set_same ls (t - 1) v 0 (omega arith) in
      let g : get_or (set ls (t - 1) v) (v - 1) 0 ≡ get_or ls (v - 1) 0 = get_or-set_other ls (t - 1) (v - 1) v 0 (λ x. omega arith) in
      let m : LinkedThrough (set ls (t - 1) v) (get_or ls (t - 1) 0) ys = linked_set ls t v (get_or ls (t - 1) 0) ys p (upper_others t ys r.0) l.3 in
      (l.0, p, omega arith, (f, a, omega arith, rw (g, e) m))
  splice ls v t (u ∷ us) ys h a b d e l r =
      let n = length-set ls (last_record u us - 1) v in
      let p = l.1 in let q = l.2 in
      let z = last-pos u ls (get_or ls (u - 1) 0) us ys l.3.1 l.3.3 in
      let o : t ≡ last_record u us → ⊥ = λ x. below_unlike (record_text s ks t) (record_text s ks (last_record u us)) (upper_last (record_text s ks t) u us ys r.0) (ap (record_text s ks) x) in
      let g : get_or (set ls (last_record u us - 1) v) (t - 1) 0 ≡ get_or ls (t - 1) 0 = get_or-set_other ls (last_record u us - 1) (t - 1) v 0 (λ x. o (omega arith)) in
      (l.0, p, omega arith, rw g (splice ls v u us ys (get_or ls (t - 1) 0) a b d e l.3 r.1))

  linked_insert : (ls : List ℕ) (head p : ℕ) (xs ys : List ℕ) → last_record 0 xs ≡ p → LinkedThrough ls head (xs ++ ys) → Rises s ks (xs ++ ys)
      → LinkedThrough (links_with ls head p) (head_with ls head p) (xs ++ (suc (length ls) ∷ ys))
  linked_insert ls head p [] ys e l r =
      let z : eqb p 0 ≡ true = eq-eqb p 0 (sym e) in
      let n = length-append ls (head ∷ []) in
      let m : LinkedThrough (ls ++ (head ∷ [])) (get_or (ls ++ (head ∷ [])) (suc (length ls) - 1) 0) ys = rw (get_or_at ls head [] 0 (suc (length ls) - 1) (omega arith)) (linked_grown ls head head ys l) in
      let k : links_with ls head p ≡ ls ++ (head ∷ []) = rw (z, links_with) in
      let g : head_with ls head p ≡ suc (length ls) = rw z in
      subst (λ (w : List ℕ). LinkedThrough w (head_with ls head p) (suc (length ls) ∷ ys)) (sym k) (rw g (refl, omega arith, omega arith, m))
  linked_insert ls head p (t ∷ ts) ys e l r =
      let k : 0 < last_record t ts = last-pos t ls (get_or ls (t - 1) 0) ts ys l.1 l.3 in
      let w : last_record t ts ≤ length ls = last-from ls (get_or ls (t - 1) 0) t ts ys l.2 l.3 in
      let z : eqb p 0 ≡ false = ne_eqb p 0 (λ x. omega arith) in
      let n = length-append ls (get_or ls (p - 1) 0 ∷ []) in
      let f : get_or (ls ++ (get_or ls (p - 1) 0 ∷ [])) (suc (length ls) - 1) 0 ≡ get_or ls (p - 1) 0 = get_or_at ls (get_or ls (p - 1) 0) [] 0 (suc (length ls) - 1) (omega arith) in
      let g : get_or (ls ++ (get_or ls (p - 1) 0 ∷ [])) (p - 1) 0 ≡ get_or ls (p - 1) 0 = get_or-append ls (get_or ls (p - 1) 0 ∷ []) 0 (p - 1) (omega arith) in
      let m : LinkedThrough (set (ls ++ (get_or ls (p - 1) 0 ∷ [])) (last_record t ts - 1) (suc (length ls))) head (t ∷ (ts ++ (suc (length ls) ∷ ys))) =
      splice (ls ++ (get_or ls (p - 1) 0 ∷ [])) (suc (length ls)) t ts ys head (omega arith) (omega arith) (omega arith) (rw e (f ∙ sym g)) (linked_grown ls (get_or ls (p - 1) 0) head (t ∷ (ts ++ ys)) l) r in
      let m' : LinkedThrough (set (ls ++ (get_or ls (p - 1) 0 ∷ [])) (p - 1) (suc (length ls))) head (t ∷ (ts ++ (suc (length ls) ∷ ys))) =
      subst (λ (x : ℕ). LinkedThrough (set (ls ++ (get_or ls (p - 1) 0 ∷ [])) (x - 1) (suc (length ls))) head (t ∷ (ts ++ (suc (length ls) ∷ ys)))) e m in
      let k : links_with ls head p ≡ set (ls ++ (get_or ls (p - 1) 0 ∷ [])) (p - 1) (suc (length ls)) = rw (z, links_with) in
      let g : head_with ls head p ≡ head = rw z in
      subst (λ (w : List ℕ). LinkedThrough w (head_with ls head p) (t ∷ (ts ++ (suc (length ls) ∷ ys)))) (sym k) (subst (λ (x : ℕ). LinkedThrough (set (ls ++ (get_or ls (p - 1) 0 ∷ [])) (p - 1) (suc (length ls))) x (t ∷ (ts ++ (suc (length ls) ∷ ys)))) (sym g) m')

-- ---- letters

-- the records are among the first n
abbrev pub Among : ℕ → List ℕ → Type 0
Among n [] = Unit {0}
Among n (t ∷ ts) = (0 < t) × (t ≤ n) × Among n ts

pub linked_among : (ls : List ℕ) (h : ℕ) (c : List ℕ) → LinkedThrough ls h c → Among (length ls) c
linked_among ls h [] l = tt
linked_among ls h (t ∷ ts) l = (l.1, l.2, linked_among ls (get_or ls (t - 1) 0) ts l.3)

pub among-left : (n : ℕ) (xs ys : List ℕ) → Among n (xs ++ ys) → Among n xs
among-left n [] ys h = tt
among-left n (x ∷ xs) ys h = (h.0, h.1, among-left n xs ys h.2)

pub among_right : (n : ℕ) (xs ys : List ℕ) → Among n (xs ++ ys) → Among n ys
among_right n [] ys h = h
among_right n (x ∷ xs) ys h = among_right n xs ys h.2

module _ (s : List ℕ) (ks : List Range) (r : Range) where
  text_grown : (t : ℕ) → 0 < t → t ≤ length ks → record_text s (ks ++ (r ∷ [])) t ≡ record_text s ks t
  text_grown t h k = ap (part s) (get_or-append ks (r ∷ []) (site 0 0) (t - 1) (omega arith))

  text-last : record_text s (ks ++ (r ∷ [])) (suc (length ks)) ≡ part s r
  text-last = ap (part s) (get_or_at ks r [] (site 0 0) (suc (length ks) - 1) (omega arith))

  lower_grown : (new : List ℕ) (c : List ℕ) → Among (length ks) c → Lower s ks new c → Lower s (ks ++ (r ∷ [])) new c
  lower_grown new [] a h = tt
  lower_grown new (t ∷ ts) a h = (ap (λ (x : List ℕ). compared x new) (text_grown t a.0 a.1) ∙ h.0, lower_grown new ts a.2 h.1)

  upper_grown : (new : List ℕ) (c : List ℕ) → Among (length ks) c → Upper s ks new c → Upper s (ks ++ (r ∷ [])) new c
  upper_grown new [] a h = tt
  upper_grown new (t ∷ ts) a h = (ap (compared new) (text_grown t a.0 a.1) ∙ h.0, upper_grown new ts a.2 h.1)

  pub rises_grown : (c : List ℕ) → Among (length ks) c → Rises s ks c → Rises s (ks ++ (r ∷ [])) c
  rises_grown [] a h = tt
  rises_grown (t ∷ ts) a h =
      (rw (text_grown t a.0 a.1) (upper_grown (record_text s ks t) ts a.2 h.0), rises_grown ts a.2 h.1)

module _ (s : List ℕ) (ks : List Range) (v : ℕ) where
  upper_splice : (a : List ℕ) (xs ys : List ℕ) → compared a (record_text s ks v) ≡ Less → Upper s ks a (xs ++ ys) → Upper s ks a (xs ++ (v ∷ ys))
  upper_splice a [] ys o h = (o, h)
  upper_splice a (x ∷ xs) ys o h = (h.0, upper_splice a xs ys o h.1)

  rises_splice : (xs ys : List ℕ) → Lower s ks (record_text s ks v) xs → Upper s ks (record_text s ks v) ys → Rises s ks (xs ++ ys) → Rises s ks (xs ++ (v ∷ ys))
  rises_splice [] ys l u h = (u, h)
  rises_splice (x ∷ xs) ys l u h = (upper_splice (record_text s ks x) xs ys l.0 h.0, rises_splice xs ys l.1 u h.1)

length_with : (ls : List ℕ) (head p : ℕ) → length (links_with ls head p) ≡ suc (length ls)
length_with ls head p = go (eqb p 0)
  where
    go : (t : Bool) → length (cond t (ls ++ (next_of ls head p ∷ [])) (set (ls ++ (next_of ls head p ∷ [])) (p - 1) (suc (length ls)))) ≡ suc (length ls)
    go true = let n = length-append ls (next_of ls head p ∷ []) in omega arith
    go false =
        let n = length-append ls (next_of ls head p ∷ []) in
        let m = length-set (ls ++ (next_of ls head p ∷ [])) (p - 1) (suc (length ls)) in
        omega arith

-- one more record, in its place
pub listed-insert : (s : List ℕ) (ks : List Range) (ls : List ℕ) (head p : ℕ) (r : Range) (xs ys : List ℕ) → length ks ≡ length ls → ListFrom s ks ls head (xs ++ ys)
    → last_record 0 xs ≡ p → Lower s ks (part s r) xs → Upper s ks (part s r) ys
    → ListFrom s (ks ++ (r ∷ [])) (links_with ls head p) (head_with ls head p) (xs ++ (suc (length ls) ∷ ys))
listed-insert s ks ls head p r xs ys n l e lo hi =
    let a : Among (length ks) (xs ++ ys) = rw n (linked_among ls head (xs ++ ys) l.linked) in
    let t : record_text s (ks ++ (r ∷ [])) (suc (length ls)) ≡ part s r = rw n at (text-last s ks r) in
    record {
      linked = linked_insert s ks ls head p xs ys e l.linked l.rises;
      rises = rises_splice s (ks ++ (r ∷ [])) (suc (length ls)) xs ys
          (rw t (lower_grown s ks r (part s r) xs (among-left (length ks) xs ys a) lo))
          (rw t (upper_grown s ks r (part s r) ys (among_right (length ks) xs ys a) hi))
          (rises_grown s ks r (xs ++ ys) a l.rises);
      few =
          let f = l.few in
          let g = length-append xs ys in
          let h = length-append xs (suc (length ls) ∷ ys) in
          let k = length_with ls head p in
          omega arith;
    }

-- what stands behind a record of the list is one of its records, or 0
pub listed_next : (s : List ℕ) (ks : List Range) (ls : List ℕ) (head p : ℕ) (xs ys : List ℕ) → ListFrom s ks ls head (xs ++ ys) → last_record 0 xs ≡ p → next_of ls head p ≤ length ls
listed_next s ks ls head p xs ys l e = go ys (rw e at (linked_behind ls head xs ys l.linked))
  where
    go : (ys : List ℕ) → LinkedThrough ls (next_of ls head p) ys → next_of ls head p ≤ length ls
    go [] z = omega arith
    go (y ∷ ys) z = let a = z.0 in let b = z.2 in omega arith

module _ (s : List ℕ) (ks : List Range) (ls : List ℕ) (head p : ℕ) (new : List ℕ) (h : PlaceFor s ks ls head p new) where
  placed-listed : ListFrom s ks ls head (h.between.xs ++ h.between.ys)
  placed-listed = rw h.between.whole at h.listed

  pub place-next : next_of ls head p ≤ length ls
  place-next = listed_next s ks ls head p h.between.xs h.between.ys placed-listed h.between.last

  pub place-within : p ≤ length ls
  place-within = rw h.between.last at (last-from ls head 0 h.between.xs h.between.ys (omega arith) placed-listed.linked)
