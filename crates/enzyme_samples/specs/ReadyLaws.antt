-- Laws of ranges that are each offered once. Assumes nothing.
use Rattle.std.specs.Prelude.{ℕ, ◌+◌, ◌-◌, ◌≤◌, ◌<◌, ◌≡◌, refl, Bool, true, false, ◌⊎◌, List, [], ◌∷◌, ◌++◌, length, get_or, Some, None}
use Rattle.std.proofs.Common.{sym, ap, ◌∙◌, inl, inr, ⊎_elim, append_assoc, arith}
use Rattle.lists.specs.Tests.{same?, truth?}
use Rattle.lists.specs.Lists.{same}
use Rattle.lists.specs.SameLaws.{same_refl, same-eq, same_short}
use Rattle.enzyme_cuts.specs.Cutting.{Range, site, part, seen_in}
use Rattle.enzyme_cuts.specs.InsideLaws.{part_length}
use Rattle.enzyme_cuts.specs.Work.{RangesWithin}
use Rattle.enzyme_keep.specs.declared.offering.Terms.{Terms}
use Rattle.enzyme_keep.specs.Buffer.{ranges_in}
use Rattle.enzyme_keep.specs.Steps.{Step, After, after, unless_full, offers, untold}
use Rattle.enzyme_keep.specs.StepLaws.{offers_append}
use Rattle.enzyme_once.specs.ThinLaws.{Hit, hit_left, hit_right, hit_either}
use Rattle.enzyme_once.specs.DistinctLaws.{NoRangeTwice}
use Rattle.enzyme_list.specs.Tally.{Tally}
use Rattle.enzyme_list.specs.TallyLaws as tally
use Rattle.enzyme_list.specs.OfferLaws.{keeps_start, list_tells_start}
use Rattle.enzyme_samples.specs.declared.offering.Run.{Run}
use Rattle.enzyme_samples.specs.Ready.{run_started, Weighted, weighted, ranges, loaded, added, RangesReady, seen_as, Tallied, Offers}
use Rattle.enzyme_words.specs.Words.{Far}

-- ---- ranges with weights

pub ranges_append : (xs ys : List Weighted) → ranges (xs ++ ys) ≡ ranges xs ++ ranges ys
ranges_append [] ys = refl
ranges_append (x ∷ xs) ys = ap (λ (rs : List Range). x.range ∷ rs) (ranges_append xs ys)

pub added_append : (s : List ℕ) (t : Terms) (xs ys : List Weighted) (x : List ℕ) → added s t (xs ++ ys) x ≡ added s t xs x + added s t ys x
added_append s t [] ys x = omega arith
added_append s t (w ∷ xs) ys x = let ih = added_append s t xs ys x in omega arith

pub loaded_append : (n : ℕ) (xs ys : List Range) → loaded n (xs ++ ys) ≡ loaded n xs ++ loaded n ys
loaded_append n [] ys = refl
loaded_append n (x ∷ xs) ys = ap (λ (ws : List Weighted). weighted x n ∷ ws) (loaded_append n xs ys)

pub ranges-loaded : (n : ℕ) (rs : List Range) → ranges (loaded n rs) ≡ rs
ranges-loaded n [] = refl
ranges-loaded n (r ∷ rs) = ap (λ (rs : List Range). r ∷ rs) (ranges-loaded n rs)

-- ---- ranges that stand once

distinct-left : (xs ys : List Range) → NoRangeTwice (xs ++ ys) → NoRangeTwice xs
distinct-left [] ys d = tt
distinct-left (x ∷ xs) ys d = (λ h. d.0 (hit_left x.from x.to xs ys h), distinct-left xs ys d.1)

-- one of them left out
pub distinct_less : (xs : List Range) (r : Range) (ys : List Range) → NoRangeTwice (xs ++ (r ∷ ys)) → NoRangeTwice (xs ++ ys)
distinct_less [] r ys d = d.1
distinct_less (x ∷ xs) r ys d = (λ h. d.0 (more (hit_either x.from x.to xs ys h)), distinct_less xs r ys d.1)
  where
    more : Hit x.from x.to xs ⊎ Hit x.from x.to ys → Hit x.from x.to (xs ++ (r ∷ ys))
    more (inl h) = hit_left x.from x.to xs (r ∷ ys) h
    more (inr h) = hit_right x.from x.to xs (r ∷ ys) (inr h)

inside_left : (n : ℕ) (xs ys : List Range) → RangesWithin n (xs ++ ys) → RangesWithin n xs
inside_left n [] ys i = tt
inside_left n (x ∷ xs) ys i = (i.0, i.1, inside_left n xs ys i.2)

-- ---- letters that stand at one place

-- a range longer than what f has for its start has other letters than any other range
pub far_new : (s f : List ℕ) (r k : Range) → Far s f → r.from ≤ r.to → r.to ≤ length s → k.from ≤ k.to → k.to ≤ length s → get_or f r.from 0 < r.to - r.from
    → ((k.from ≡ r.from) × (k.to ≡ r.to) → ⊥) → same (part s r) (part s k) ≡ false
far_new s f r k far i j p q long other = go (same? (r.to - r.from) (k.to - k.from))
  where
    go : (r.to - r.from ≡ k.to - k.from) ⊎ (r.to - r.from ≡ k.to - k.from → ⊥) → same (part s r) (part s k) ≡ false
    go (inr n) = same_short (part s r) (part s k) (λ e. let x = part_length s r i j in let y = part_length s k p q in n (omega arith))
    go (inl e) =
        let len : ℕ = r.to - r.from in
        let g : r.from ≡ k.from → ⊥ = λ h. other (sym h, omega arith) in
        let u : r.from + len ≡ r.to = omega arith in
        let v : k.from + len ≡ k.to = omega arith in
        let x = far r.from k.from len (omega arith) (omega arith) g long in
        rw (u, v) at x

same_back : (a b : List ℕ) → same a b ≡ false → same b a ≡ false
same_back a b h = ⊎_elim (λ (e : same b a ≡ true). absurd (no e)) (λ (e : same b a ≡ false). e) (truth? (same b a))
  where
    no : same b a ≡ true → ⊥
    no e =
        let g : b ≡ a = same-eq b a e in
        let k : same a b ≡ true = rw g (same_refl a) in
        let z : true ≡ false = sym k ∙ h in
        let y : ◌≡◌ {A = ℕ} 0 1 = cc in
        omega arith

pub far_unseen : (s f : List ℕ) (ks : List Range) (r : Range) (rest : List Range) → Far s f → RangesWithin (length s) ks → r.from ≤ r.to → r.to ≤ length s → get_or f r.from 0 < r.to - r.from
    → NoRangeTwice (ks ++ (r ∷ rest)) → seen_in s ks (part s r) ≡ false
far_unseen s f [] r rest far ins i j long d = refl
far_unseen s f (k ∷ ks) r rest far ins i j long d =
    let x : same (part s r) (part s k) ≡ false =
    far_new s f r k far i j ins.0 ins.1 long (λ h. d.0 (hit_right k.from k.to ks (r ∷ rest) (inl (sym h.0, sym h.1)))) in
    rw (same_back (part s r) (part s k) x) (far_unseen s f ks r rest far ins.2 i j long d.1)

-- ---- lists of ranges, one after the other

-- no record yet
pub ready_start : (s f : List ℕ) (ws : List Weighted) (out marks : List ℕ) → length s ≤ 65536 → Far s f → RangesWithin (length s) (ranges ws) → NoRangeTwice (ranges ws) → RangesReady s f ws run_started out marks
ready_start s f ws out marks h far i d = record {
  keeps = keeps_start s out h;
  far = far;
  knows = λ a e p q l. list_tells_start s out (part s (site a e));
  marked = record { room = omega arith; listed = λ i l. absurd (omega arith) };
  inside = i;
  once = d;
  brims = λ f. absurd (tally.clash false f refl);
}

pub tallied_start : (s : List ℕ) (t : Terms) (out : List ℕ) → Tallied s t run_started out (λ x. 0)
tallied_start s t out = tally.tally_start s t out

-- the same numbers, said in another way
pub tally_alike : {s : List ℕ} {t : Terms} {count : ℕ} {full : Bool} {out : List ℕ} (T U : List ℕ → ℕ) → ((x : List ℕ) → T x ≡ U x) → Tally s t count full out T → Tally s t count full out U
tally_alike T U e h = tally.tally_alike T U e h

-- the first of them may be offered
pub ready_first : {s f : List ℕ} {run : Run} {out marks : List ℕ} (xs ys : List Weighted) → RangesReady s f (xs ++ ys) run out marks → RangesReady s f xs run out marks
ready_first {s} {f} {run} {out} {marks} xs ys h =
    let i : RangesWithin (length s) (ranges xs ++ ranges ys) = rw (ranges_append xs ys) at h.inside in
    let o : NoRangeTwice (ranges_in run.count out ++ (ranges xs ++ ranges ys)) = rw (ranges_append xs ys) at h.once in
    record {
      keeps = h.keeps;
      far = h.far;
      knows = h.knows;
      marked = h.marked;
      inside = inside_left (length s) (ranges xs) (ranges ys) i;
      once = distinct-left (ranges_in run.count out ++ ranges xs) (ranges ys) (rw (append_assoc (ranges_in run.count out) (ranges xs) (ranges ys)) o);
      brims = h.brims;
    }

unless_append : (s : List ℕ) (t : Terms) (xs ys : List Range) (a : After) → unless_full (unless_full a (offers s t untold xs)) (offers s t untold ys) ≡ unless_full a (offers s t untold (xs ++ ys))
unless_append s t xs ys a = go a.step
  where
    go : (x : Step) → unless_full (unless_full (after x a.bytes) (offers s t untold xs)) (offers s t untold ys) ≡ unless_full (after x a.bytes) (offers s t untold (xs ++ ys))
    go (Some k) = sym (offers_append s t untold xs ys k a.bytes)
    go None = refl

unless_none : (s : List ℕ) (t : Terms) (a : After) → a ≡ unless_full a (offers s t untold [])
unless_none s t a = go a.step
  where
    go : (x : Step) → after x a.bytes ≡ unless_full (after x a.bytes) (offers s t untold [])
    go (Some k) = refl
    go None = refl

module _ {s f : List ℕ} {t : Terms} {run : Run} {out marks : List ℕ} where
  pub offers-none : Offers s f t [] run out marks run out marks
  offers-none = record { view = unless_none s t (seen_as t run out); next = λ rest h. h; tells = λ T h. tally_alike T (λ x. T x + 0) (λ x. omega arith) h }

  pub offers_then : {xs ys : List Weighted} {at : Run} {o m : List ℕ} {run' : Run} {o' m' : List ℕ} → Offers s f t xs run out marks at o m → Offers s f t ys at o m run' o' m'
      → Offers s f t (xs ++ ys) run out marks run' o' m'
  offers_then {xs} {ys} {at} {o} {m} {run'} {o'} {m'} x y = record {
    view = y.view ∙ ap (λ (a : After). unless_full a (offers s t untold (ranges ys))) x.view ∙ unless_append s t (ranges xs) (ranges ys) (seen_as t run out) ∙ ap (λ (rs : List Range). unless_full (seen_as t run out) (offers s t untold rs)) (sym (ranges_append xs ys));
    next = λ rest h. y.next rest (x.next (ys ++ rest) (rw (append_assoc xs ys rest) at h));
    tells = λ T h. tally_alike (λ z. T z + added s t xs z + added s t ys z) (λ z. T z + added s t (xs ++ ys) z) (λ z. let e = added_append s t xs ys z in omega arith) (y.tells (λ z. T z + added s t xs z) (x.tells T h));
  }

-- ---- what is ahead of a loop: offering the rest gives the claim

abbrev pub LeadsTo : List ℕ → List ℕ → Terms → (Run → List ℕ → List ℕ → Type 0) → List Weighted → Run → List ℕ → List ℕ → Type 0
LeadsTo s f t claim rest run out marks = (a : Run) (o m : List ℕ) → Offers s f t rest run out marks a o m → claim a o m

module _ {s f : List ℕ} {t : Terms} {claim : Run → List ℕ → List ℕ → Type 0} {run : Run} {out marks : List ℕ} where
  pub leads_end : LeadsTo s f t claim [] run out marks → claim run out marks
  leads_end g = g run out marks offers-none

  module _ (xs ys : List Weighted) (g : LeadsTo s f t claim (xs ++ ys) run out marks) {o m : List ℕ} where
    pub leads-on : {at : Run} → Offers s f t xs run out marks at o m → LeadsTo s f t claim ys at o m
    leads-on x a o' m' y = g a o' m' (offers_then x y)
