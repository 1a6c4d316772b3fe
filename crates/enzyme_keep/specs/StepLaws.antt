-- Laws of ranges that are offered one after the other. Assumes nothing.
use Rattle.std.specs.Prelude.{ℕ, ◌+◌, ◌-◌, ◌*◌, ◌/◌, ◌≤◌, ◌<◌, ◌≡◌, Bool, not, ◌&&◌, length, Some, None}
use Rattle.std.proofs.Math.Path.{refl}
use Rattle.std.proofs.Common.{sym, ap, ◌∙◌}
use Rattle.std.proofs.Math.Bool.{true, false}
use mathlib.Core.List.{List, [], ◌∷◌, ◌++◌}
use native.Mathlib.Omega.{arith}
use Rattle.std.proofs.Math.Nat.{min-le_left, min-le_right}
use Rattle.std.proofs.Math.Seq.{sets, length-sets}
use Rattle.std.proofs.Math.Dec.{ltb}
use borrow.Author.Tests.{ltb-true, ltb-false}
use Rattle.records.specs.Le.{le}
use Rattle.enzyme_cuts.specs.Cutting.{Range, part, seen_in, within, wanted}
use Rattle.enzyme_cuts.specs.Work.{RangesWithin}
use Rattle.enzyme_keep.specs.declared.offering.Terms.{Terms}
use Rattle.enzyme_keep.specs.Digests.{record_of}
use Rattle.enzyme_keep.specs.Buffer.{range_at, ranges_in, sealed, bared, times_at, retold}
use Rattle.enzyme_keep.specs.BufferLaws.{length-bared, length-retold, ranges-retold, retold-more, retold-bared}
use Rattle.enzyme_keep.specs.Steps.{Step, digest_room, After, after, decided, offered, unless_full, offers, standing, untold, View, telling}

-- ---- two lists of ranges, one after the other

pub offers_append : (s : List ℕ) (t : Terms) (f : Range → ℕ) (xs ys : List Range) (count : ℕ) (out : List ℕ)
    → offers s t f (xs ++ ys) count out ≡ unless_full (offers s t f xs count out) (offers s t f ys)
offers_append s t f [] ys count out = refl
offers_append s t f (r ∷ xs) ys count out =
    let a = offered s t f r count out in
    go a.step a.bytes (offers_append s t f xs ys)
  where
    go : (x : Step) (o : List ℕ) → ((count : ℕ) (out : List ℕ) → offers s t f (xs ++ ys) count out ≡ unless_full (offers s t f xs count out) (offers s t f ys))
        → unless_full (after x o) (offers s t f (xs ++ ys)) ≡ unless_full (unless_full (after x o) (offers s t f xs)) (offers s t f ys)
    go (Some n) o ih = ih n o
    go None o ih = refl

then_kept : (a : After) (f : ℕ → List ℕ → After) (count : ℕ) (out : List ℕ) → after (Some count) out ≡ a → unless_full a f ≡ f count out
then_kept a f count out g = rw (sym g)

then_full : (a : After) (f : ℕ → List ℕ → After) (out : List ℕ) → after None out ≡ a → unless_full a f ≡ after None out
then_full a f out g = rw (sym g)

-- the first list was passed over or kept, and the second came after
pub view_then : (s : List ℕ) (t : Terms) (xs ys : List Range) (count : ℕ) (out : List ℕ) (k : ℕ) (o : List ℕ) (r : Step) (o' : List ℕ)
    → View s t xs count out (Some k) o → View s t ys k o r o' → View s t (xs ++ ys) count out r o'
view_then s t xs ys count out k o r o' x y =
    let old = bared t.protein count out in
    y ∙ sym (offers_append s t untold xs ys count old ∙ then_kept (offers s t untold xs count old) (offers s t untold ys) k (bared t.protein k o) x)

-- there was no room for one of the first
pub view_full : (s : List ℕ) (t : Terms) (xs ys : List Range) (count : ℕ) (out o : List ℕ) → View s t xs count out None o → View s t (xs ++ ys) count out None o
view_full s t xs ys count out o x =
    let old = bared t.protein count out in
    sym (offers_append s t untold xs ys count old ∙ then_full (offers s t untold xs count old) (offers s t untold ys) (bared t.protein (digest_room o) o) x)

-- ---- one range

pub offers-one : (s : List ℕ) (t : Terms) (f : Range → ℕ) (r : Range) (count : ℕ) (out : List ℕ) → offers s t f (r ∷ []) count out ≡ offered s t f r count out
offers-one s t f r count out = let a = offered s t f r count out in go a.step a.bytes
  where
    go : (x : Step) (o : List ℕ) → unless_full (after x o) (offers s t f []) ≡ after x o
    go (Some n) o = refl
    go None o = refl

-- ---- the records of a run are no more than a list holds

pub offers_capped : (s : List ℕ) (t : Terms) (f : Range → ℕ) (rs : List Range) (count : ℕ) (out : List ℕ) (k : ℕ) (o : List ℕ) → count ≤ 1048576 → after (Some k) o ≡ offers s t f rs count out → k ≤ 1048576
unfolding offered
offers_capped s t f [] count out k o h e =
    let d : Some k ≡ Some count = ap (λ (x : After). x.step) e in
    let g : k ≡ count = cc in
    omega arith
offers_capped s t f (r ∷ rs) count out k o h e = go (wanted s t.minimum t.maximum (ranges_in count out) r) (ltb count (digest_room out)) refl e (λ n b. offers_capped s t f rs n b k o)
  where
    go : (w b : Bool) → ltb count (digest_room out) ≡ b → after (Some k) o ≡ unless_full (decided w b count out (record_of (length s) t.protein r (f r))) (offers s t f rs)
        → ((n : ℕ) (b : List ℕ) → n ≤ 1048576 → after (Some k) o ≡ offers s t f rs n b → k ≤ 1048576) → k ≤ 1048576
    go true true g e ih = ih (count + 1) (sets out (20 * count) (record_of (length s) t.protein r (f r))) (omega (arith, ltb-true count (digest_room out) g, min-le_right (length out / 20) 1048576)) e
    go true false g e ih =
        let h : Some k ≡ None = ap (λ (x : After). x.step) e in
        let z : ◌≡◌ {A = ℕ} 0 1 = cc in
        absurd (omega arith)
    go false b g e ih = ih count out h e

-- ---- nor than there is room for

pub offers-roomy : (s : List ℕ) (t : Terms) (f : Range → ℕ) (rs : List Range) (count : ℕ) (out : List ℕ) (k : ℕ) (o : List ℕ) → count ≤ digest_room out → after (Some k) o ≡ offers s t f rs count out → k ≤ digest_room o
unfolding offered
offers-roomy s t f [] count out k o h e =
    let d : Some k ≡ Some count = ap (λ (x : After). x.step) e in
    let g : k ≡ count = cc in
    let i : o ≡ out = ap (λ (x : After). x.bytes) e in
    rw (g, i) h
offers-roomy s t f (r ∷ rs) count out k o h e = go (wanted s t.minimum t.maximum (ranges_in count out) r) (ltb count (digest_room out)) refl e (λ n b. offers-roomy s t f rs n b k o)
  where
    go : (w b : Bool) → ltb count (digest_room out) ≡ b → after (Some k) o ≡ unless_full (decided w b count out (record_of (length s) t.protein r (f r))) (offers s t f rs)
        → ((n : ℕ) (b : List ℕ) → n ≤ digest_room b → after (Some k) o ≡ offers s t f rs n b → k ≤ digest_room o) → k ≤ digest_room o
    go true true g e ih =
        let new = sets out (20 * count) (record_of (length s) t.protein r (f r)) in
        ih (count + 1) new (rw (length-sets out (20 * count) (record_of (length s) t.protein r (f r))) (omega (arith, ltb-true count (digest_room out) g))) e
    go true false g e ih =
        let h : Some k ≡ None = ap (λ (x : After). x.step) e in
        let z : ◌≡◌ {A = ℕ} 0 1 = cc in
        absurd (omega arith)
    go false b g e ih = ih count out h e

-- ---- two ways to say how often letters occur

-- what comes after is the same
pub unless_alike : (a : After) (f g : ℕ → List ℕ → After) → ((count : ℕ) (out : List ℕ) → f count out ≡ g count out) → unless_full a f ≡ unless_full a g
unless_alike a f g h = go a.step
  where
    go : (x : Step) → unless_full (after x a.bytes) f ≡ unless_full (after x a.bytes) g
    go (Some k) = h k a.bytes
    go None = refl

-- that say the same of every range that may be a digest
pub offers-alike : (s : List ℕ) (t : Terms) (f g : Range → ℕ) (n : ℕ) (rs : List Range) → RangesWithin n rs
    → ((r : Range) → within t.minimum t.maximum (r.to - r.from) ≡ true → r.to ≤ n → f r ≡ g r) → (count : ℕ) (out : List ℕ) → offers s t f rs count out ≡ offers s t g rs count out
unfolding offered
offers-alike s t f g n [] i h count out = refl
offers-alike s t f g n (r ∷ rs) i h count out = go (within t.minimum t.maximum (r.to - r.from)) refl (offers-alike s t f g n rs i.2 h)
  where
    go : (w : Bool) → within t.minimum t.maximum (r.to - r.from) ≡ w → ((count : ℕ) (out : List ℕ) → offers s t f rs count out ≡ offers s t g rs count out)
        → unless_full (decided (w && not (seen_in s (ranges_in count out) (part s r))) (ltb count (digest_room out)) count out (record_of (length s) t.protein r (f r))) (offers s t f rs)
        ≡ unless_full (decided (w && not (seen_in s (ranges_in count out) (part s r))) (ltb count (digest_room out)) count out (record_of (length s) t.protein r (g r))) (offers s t g rs)
    go true e ih = rw (h r e i.1) (unless_alike (decided (not (seen_in s (ranges_in count out) (part s r))) (ltb count (digest_room out)) count out (record_of (length s) t.protein r (g r))) (offers s t f rs) (offers s t g rs) ih)
    go false e ih = ih count out

-- ---- numbers that are told at the end

module _ (s : List ℕ) (t : Terms) (f : Range → ℕ) (small : length s ≤ 65536) where
  pub offers-telling : (rs : List Range) → RangesWithin (length s) rs → (count : ℕ) (out : List ℕ) → count ≤ digest_room out
      → offers s t f rs count (retold f count out) ≡ telling f (offers s t untold rs count out)
  unfolding offered
  offers-telling [] i count out h = refl
  offers-telling (r ∷ rs) i count out h =
      rw (ranges-retold f count count out, length-retold f count out)
      (go (wanted s t.minimum t.maximum (ranges_in count out) r) (ltb count (digest_room out)) refl (offers-telling rs i.2))
    where
      go : (w b : Bool) → ltb count (digest_room out) ≡ b
          → ((count : ℕ) (out : List ℕ) → count ≤ digest_room out → offers s t f rs count (retold f count out) ≡ telling f (offers s t untold rs count out))
          → unless_full (decided w b count (retold f count out) (record_of (length s) t.protein r (f r))) (offers s t f rs)
          ≡ telling f (unless_full (decided w b count out (record_of (length s) t.protein r 0)) (offers s t untold rs))
      go true true g ih =
          let l = ltb-true count (digest_room out) g in
          let m = min-le_left (length out / 20) 1048576 in
          let new = sets out (20 * count) (record_of (length s) t.protein r 0) in
          let e : retold f (count + 1) new ≡ sets (retold f count out) (20 * count) (record_of (length s) t.protein r (f r)) = retold-more f (length s) t.protein r count out (omega arith) small i.0 i.1 in
          let x = ih (count + 1) new (rw (length-sets out (20 * count) (record_of (length s) t.protein r 0)) (omega arith)) in
          rw e at x
      go true false g ih =
          let l = ltb-false count (digest_room out) g in
          let e : digest_room out ≡ count = omega arith in
          rw e
      go false b g ih = ih count out h

  -- ranges were offered without their numbers, and now each record that stands has its number: with the protein in the place of the links
  -- this is what offers with the numbers give
  pub view_told : (rs : List Range) → RangesWithin (length s) rs → (out : List ℕ) (r : Step) (out' : List ℕ) → View s t rs 0 out r out'
      → ((k : ℕ) → k < standing r out' → times_at k out' ≡ le 4 (f (range_at out' (20 * k)))) → 20 * standing r out' ≤ length out'
      → after r (sealed t.protein (standing r out') out') ≡ offers s t f rs 0 out
  view_told rs i out r out' v told room =
      let p = t.protein in
      let k = standing r out' in
      let e : retold f k (bared p k out') ≡ sealed p k out' = retold-bared f p k out' room told in
      let d : standing r (bared p k out') ≡ k = standing-bared r in
      sym (offers-telling rs i 0 out (omega arith) ∙ ap (telling f) (sym v) ∙ rw (d, e))
    where
      standing-bared : (r : Step) → standing r (bared t.protein (standing r out') out') ≡ standing r out'
      standing-bared (Some k) = refl
      standing-bared None = rw (length-bared t.protein (digest_room out') out')
