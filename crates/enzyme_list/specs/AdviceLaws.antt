-- Where a search may begin, and what a list tells of all records. Assumes nothing.
use Rattle.std.specs.Prelude.{ℕ, suc, ◌-◌, ◌≡◌, refl, Bool, true, false, ◌||◌, List, [], ◌∷◌, ◌++◌, length, get_or}
use Rattle.std.proofs.Common.{sym, ap, ap₂, ◌∙◌, append_assoc, arith}
use Rattle.std.proofs.Math.Bool.{or-false}
use Rattle.std.proofs.Math.ListN.{get_or-append}
use Rattle.std.proofs.lemmas.List.{get_or_at}
use Rattle.lists.specs.Lists.{same}
use Rattle.enzyme_cuts.specs.Cutting.{Range, site, part, seen_in}
use Rattle.enzyme_cuts.specs.KeepLaws.{seen_in_append}
use Rattle.enzyme_list.specs.declared.walk.Place.{Place}
use Rattle.enzyme_list.specs.declared.walk.Place.TheVariants.{Same, Behind}
use Rattle.std.specs.declared.cmp.Ordering.TheVariants.{Less}
use Rattle.enzyme_order.specs.Order.{compared}
use Rattle.enzyme_order.specs.OrderLaws.{order_trans}
use Rattle.enzyme_list.specs.Chain.{record_text, Lower, Upper, Rises, ListFrom, ranges_of, FoundIn, Begun, Tells, is_same}
use Rattle.enzyme_list.specs.ChainLaws.{last_snoc, ranges_append, seen_at, between_unseen}
use Rattle.enzyme_list.specs.InsertLaws.{Among, linked_among, among-left, among_right}

-- ---- where a search may begin

-- a list with no record
pub listed-none : (s : List ℕ) (ks : List Range) (ls : List ℕ) → ListFrom s ks ls 0 []
listed-none s ks ls = record { linked = refl; rises = tt; few = omega arith }

module _ (s : List ℕ) (ks : List Range) (ls : List ℕ) (head : ℕ) (new : List ℕ) where
  -- before all
  pub begun_first : (c : List ℕ) → ListFrom s ks ls head c → Begun s ks ls head 0 new
  begun_first c l = record { c = c; listed = l; xs = []; ys = c; whole = refl; last = refl; lower = tt }

  rising_lower : (t : ℕ) (xs ys : List ℕ) → compared (record_text s ks t) new ≡ Less → Rises s ks (xs ++ (t ∷ ys)) → Lower s ks new (xs ++ (t ∷ []))
  rising_lower t [] ys o r = (o, tt)
  rising_lower t (x ∷ xs) ys o r = (order_trans (record_text s ks x) (record_text s ks t) new (at xs r.0) o, rising_lower t xs ys o r.1)
    where
      at : (xs : List ℕ) → Upper s ks (record_text s ks x) (xs ++ (t ∷ ys)) → compared (record_text s ks x) (record_text s ks t) ≡ Less
      at [] u = u.0
      at (z ∷ zs) u = at zs u.1

  -- at any record of the list that is below the letters
  pub begun_at : (t : ℕ) (xs ys : List ℕ) → ListFrom s ks ls head (xs ++ (t ∷ ys)) → compared (record_text s ks t) new ≡ Less → Begun s ks ls head t new
  begun_at t xs ys l o = record {
    c = xs ++ (t ∷ ys);
    listed = l;
    xs = xs ++ (t ∷ []);
    ys = ys;
    whole = sym (append_assoc xs (t ∷ []) ys);
    last = last_snoc 0 xs t;
    lower = rising_lower t xs ys o l.rises;
  }

-- ---- what the list tells

-- a search finds the letters exactly where a record of the list has them
pub found_seen : (s : List ℕ) (ks : List Range) (new c : List ℕ) (r : Place) → FoundIn s ks new c r → seen_in s (ranges_of ks c) new ≡ is_same r
found_seen s ks new c (Same u) f = rw f.whole (seen_at s ks new f.xs f.ys u f.letters)
found_seen s ks new c (Behind p) f = between_unseen s ks new c p f

ranges_grown : (ks : List Range) (r : Range) (c : List ℕ) → Among (length ks) c → ranges_of (ks ++ (r ∷ [])) c ≡ ranges_of ks c
ranges_grown ks r [] a = refl
ranges_grown ks r (t ∷ ts) a =
    let p = a.0 in let q = a.1 in
    ap₂ (λ (k : Range) (qs : List Range). k ∷ qs) (get_or-append ks (r ∷ []) (site 0 0) (t - 1) (omega arith)) (ranges_grown ks r ts a.2)

swap : (a b x : Bool) → ((a || b) || (x || false)) ≡ (a || (x || b))
swap true b x = refl
swap false true true = refl
swap false true false = refl
swap false false true = refl
swap false false false = refl

-- a list that tells of some letters tells of them after any record was linked in
pub tells_insert : (s : List ℕ) (ks : List Range) (ls : List ℕ) (head : ℕ) (r : Range) (xs ys new : List ℕ) → length ks ≡ length ls → ListFrom s ks ls head (xs ++ ys)
    → Tells s ks (xs ++ ys) new → Tells s (ks ++ (r ∷ [])) (xs ++ (suc (length ls) ∷ ys)) new
tells_insert s ks ls head r xs ys new n l t =
    let a : Among (length ks) (xs ++ ys) = rw n (linked_among ls head (xs ++ ys) l.linked) in
    let u : seen_in s ks new ≡ (seen_in s (ranges_of ks xs) new || seen_in s (ranges_of ks ys) new) =
    t ∙ ap (λ (rs : List Range). seen_in s rs new) (ranges_append s ks xs ys) ∙ seen_in_append s (ranges_of ks xs) (ranges_of ks ys) new in
    let g : get_or (ks ++ (r ∷ [])) (suc (length ls) - 1) (site 0 0) ≡ r = get_or_at ks r [] (site 0 0) (suc (length ls) - 1) (omega arith) in
    let v : ranges_of (ks ++ (r ∷ [])) (xs ++ (suc (length ls) ∷ ys)) ≡ ranges_of ks xs ++ (r ∷ ranges_of ks ys) =
    ranges_append s (ks ++ (r ∷ [])) xs (suc (length ls) ∷ ys)
    ∙ ap₂ (λ (p q : List Range). p ++ q) (ranges_grown ks r xs (among-left (length ks) xs ys a))
    (ap₂ (λ (k : Range) (qs : List Range). k ∷ qs) g (ranges_grown ks r ys (among_right (length ks) xs ys a))) in
    seen_in_append s ks (r ∷ []) new ∙ ap (λ (x : Bool). x || (same (part s r) new || false)) u
    ∙ swap (seen_in s (ranges_of ks xs) new) (seen_in s (ranges_of ks ys) new) (same (part s r) new)
    ∙ sym (ap (λ (rs : List Range). seen_in s rs new) v ∙ seen_in_append s (ranges_of ks xs) (r ∷ ranges_of ks ys) new)

-- and after one with other letters was written that is not linked in
pub tells_put : (s : List ℕ) (ks : List Range) (ls : List ℕ) (head : ℕ) (r : Range) (c new : List ℕ) → length ks ≡ length ls → ListFrom s ks ls head c
    → same (part s r) new ≡ false → Tells s ks c new → Tells s (ks ++ (r ∷ [])) c new
tells_put s ks ls head r c new n l e t =
    let a : Among (length ks) c = rw n (linked_among ls head c l.linked) in
    seen_in_append s ks (r ∷ []) new ∙ rw e (or-false (seen_in s ks new)) ∙ t ∙ ap (λ (rs : List Range). seen_in s rs new) (sym (ranges_grown ks r c a))
