-- Laws of a range that is offered to the list: one for each way out. Assumes nothing.
use Rattle.std.specs.Prelude.{ℕ, zero, suc, ◌+◌, ◌-◌, ◌*◌, ◌/◌, ◌%◌, ◌≤◌, ◌<◌, ◌≡◌, refl, Bool, true, false, cond, List, [], ◌∷◌, ◌++◌, length, ltb, eqb}
use Rattle.std.proofs.Math.Path.{sym}
use Rattle.std.proofs.Common.{ap, ap₂, subst, ◌∙◌, inl, inr, ⊎_elim, append_assoc, arith, add-one, lt-ltb, le-ltb}
use Rattle.std.proofs.Math.Bool.{and-false}
use Rattle.std.proofs.Math.Nat.{min-le_left, min-le_right}
use Rattle.std.proofs.lemmas.List.Edits.{sets}
use Rattle.std.proofs.Math.Seq.{length-sets}
use Rattle.lists.specs.Tests.{below?}
use Rattle.records.specs.Le.{le, number_at}
use Rattle.records.specs.LeLaws.{number_apart}
use Rattle.enzyme_cuts.specs.Cutting.{Range, part, seen_in, within, wanted}
use Rattle.enzyme_cuts.specs.InsideLaws.{inside_append}
use Rattle.enzyme_keep.specs.declared.offering.Terms.{Terms}
use Rattle.enzyme_keep.specs.Digests.{record_of}
use Rattle.enzyme_keep.specs.Buffer.{range_at, ranges_in, links_in, bared, times_at}
use Rattle.enzyme_keep.specs.BufferLaws.{length-ranges, length_links, length-bared, ranges-bared, ranges-behind, bared_lost, bared-more, times-stored}
use Rattle.enzyme_keep.specs.StepLaws.{offers-one}
use Rattle.enzyme_keep.specs.Steps.{digest_room, decided, offered, unless_full, offers, untold}
use Rattle.enzyme_list.specs.declared.walk.Place.{Place}
use Rattle.enzyme_list.specs.declared.walk.Place.TheVariants.{Same, Behind}
use Rattle.std.specs.declared.cmp.Ordering.TheVariants.{Less}
use Rattle.enzyme_order.specs.Order.{compared}
use Rattle.enzyme_list.specs.Chain.{record_text, next_of, LinkedThrough, ListFrom, Between, FoundAt, Sought, Begun, PlaceFor, Tells, is_same}
use Rattle.enzyme_list.specs.ChainLaws.{range-read, last_snoc, linked_one, linked_behind}
use Rattle.enzyme_list.specs.Insert.{inserted_in, Inserted}
use Rattle.enzyme_list.specs.InsertLaws.{Among, linked_among, among_right, place-within}
use Rattle.enzyme_list.specs.AdviceLaws.{listed-none, begun_first, begun_at, found_seen, tells_insert}
use Rattle.enzyme_list.specs.Tally.{seen_at, added_by, times_added, Tally}
use Rattle.enzyme_list.specs.TallyLaws.{clash, times_apart, tally_unfit, tally_full, tally_more, tally_found}
use Rattle.enzyme_list.specs.Offer.{Keeps, ListTells, Has, run, Brimming, Came}

-- ---- the bytes with a record that was linked in

bared-inserted : (n q : ℕ) (r : Range) (times count p x : ℕ) (out : List ℕ) → p ≤ count → bared q (count + 1) (inserted_in n r times count p x out) ≡ sets (bared q count out) (20 * count) (record_of n q r 0)
bared-inserted n q r times count p x out h = go (eqb p 0)
  where
    go : (t : Bool) → bared q (count + 1) (cond t (sets out (20 * count) (record_of n x r times)) (sets (sets out (20 * count) (record_of n x r times)) (20 * (p - 1) + 12) (le 4 (suc count)))) ≡ sets (bared q count out) (20 * count) (record_of n q r 0)
    go true = bared-more n q x r times count out
    go false = bared_lost q (le 4 (suc count)) (p - 1) (20 * (p - 1) + 12) (sets out (20 * count) (record_of n x r times)) (omega arith) (omega arith) (count + 1) (omega arith) ∙ bared-more n q x r times count out

length_inserted : (n : ℕ) (r : Range) (times count p x : ℕ) (out : List ℕ) → length (inserted_in n r times count p x out) ≡ length out
length_inserted n r times count p x out = go (eqb p 0)
  where
    go : (t : Bool) → length (cond t (sets out (20 * count) (record_of n x r times)) (sets (sets out (20 * count) (record_of n x r times)) (20 * (p - 1) + 12) (le 4 (suc count)))) ≡ length out
    go true = length-sets out (20 * count) (record_of n x r times)
    go false = length-sets (sets out (20 * count) (record_of n x r times)) (20 * (p - 1) + 12) (le 4 (suc count)) ∙ length-sets out (20 * count) (record_of n x r times)

-- the numbers: that of the new record, and the others as they were
module _ (n : ℕ) (r : Range) (times count p x : ℕ) (out : List ℕ) (room : 20 * count + 20 ≤ length out) where
  pub times-written : (k : ℕ) → k < count → times_at k (sets out (20 * count) (record_of n x r times)) ≡ times_at k out
  times-written k l = times_apart k (record_of n x r times) out (20 * count) (inl (omega arith))

  pub times-new : times_at count (sets out (20 * count) (record_of n x r times)) ≡ le 4 times
  times-new = times-stored n x r times out (20 * count) room

  times-inserted : (k : ℕ) → times_at k (inserted_in n r times count p x out) ≡ times_at k (sets out (20 * count) (record_of n x r times))
  times-inserted k = go (eqb p 0)
    where
      go : (t : Bool) → times_at k (cond t (sets out (20 * count) (record_of n x r times)) (sets (sets out (20 * count) (record_of n x r times)) (20 * (p - 1) + 12) (le 4 (suc count)))) ≡ times_at k (sets out (20 * count) (record_of n x r times))
      go true = refl
      go false = times_apart k (le 4 (suc count)) (sets out (20 * count) (record_of n x r times)) (20 * (p - 1) + 12) (⊎_elim (λ (z : k < p - 1). inl (omega arith)) (λ (z : p - 1 ≤ k). inr (omega arith)) (below? k (p - 1)))

-- ---- who is in a list is in it with one more

amid_more : (t n : ℕ) (xs ys ps qs : List ℕ) → xs ++ (t ∷ ys) ≡ ps ++ qs → (us : List ℕ) × (vs : List ℕ) × (ps ++ (n ∷ qs) ≡ us ++ (t ∷ vs))
amid_more t n xs ys [] qs e = (n ∷ xs, ys, ap (λ (l : List ℕ). n ∷ l) (sym e))
amid_more t n [] ys (p ∷ ps) qs e =
    let f : t ≡ p = cc in
    ([], ps ++ (n ∷ qs), ap (λ (x : ℕ). x ∷ (ps ++ (n ∷ qs))) (sym f))
amid_more t n (x ∷ xs) ys (p ∷ ps) qs e =
    let f : x ≡ p = cc in
    let g : xs ++ (t ∷ ys) ≡ ps ++ qs = cc in
    let k = amid_more t n xs ys ps qs g in
    (p ∷ k.0, k.1, ap (λ (l : List ℕ). p ∷ l) k.2)

-- ---- what is seen of the records

module _ (s : List ℕ) (t : Terms) (r : Range) (count : ℕ) (full : Bool) (out : List ℕ) where
  one : (w b : Bool) → wanted s t.minimum t.maximum (ranges_in count out) r ≡ w → ltb count (digest_room out) ≡ b
      → decided w b count (bared t.protein count out) (record_of (length s) t.protein r 0) ≡ offers s t untold (r ∷ []) count (bared t.protein count out)
  unfolding offered
  one w b e f = sym (offers-one s t untold r count (bared t.protein count out) ∙ rw (ranges-bared t.protein count count out, length-bared t.protein count out, e, f))

  -- a range that is not wanted: nothing but numbers may have changed
  pub view_same : wanted s t.minimum t.maximum (ranges_in count out) r ≡ false → Brimming count full out → (out' : List ℕ) → length out' ≡ length out → bared t.protein count out' ≡ bared t.protein count out
      → seen_at t count full out' ≡ unless_full (seen_at t count full out) (offers s t untold (r ∷ []))
  view_same e brim out' l b = go full brim
    where
      go : (full : Bool) → Brimming count full out → seen_at t count full out' ≡ unless_full (seen_at t count full out) (offers s t untold (r ∷ []))
      go true brim =
          let d : digest_room out ≡ count = sym (brim refl) in
          rw (l, d, b)
      go false brim = rw b (one false (ltb count (digest_room out)) e refl)

  -- there is no room
  pub view_full : wanted s t.minimum t.maximum (ranges_in count out) r ≡ true → digest_room out ≡ count → seen_at t count true out ≡ unless_full (seen_at t count full out) (offers s t untold (r ∷ []))
  view_full e d = go full
    where
      go : (full : Bool) → seen_at t count true out ≡ unless_full (seen_at t count full out) (offers s t untold (r ∷ []))
      go true = refl
      go false = rw d (one true false e (le-ltb count (digest_room out) (omega arith)))

  -- it was written
  pub view_more : wanted s t.minimum t.maximum (ranges_in count out) r ≡ true → count < digest_room out → full ≡ false → (out' : List ℕ)
      → bared t.protein (count + 1) out' ≡ sets (bared t.protein count out) (20 * count) (record_of (length s) t.protein r 0)
      → seen_at t (count + 1) false out' ≡ unless_full (seen_at t count full out) (offers s t untold (r ∷ []))
  view_more e free roomy out' b = rw (roomy, b) (one true true e (lt-ltb count (digest_room out) free))

-- ---- the ways out

links_counted : (k : ℕ) (out : List ℕ) (j v : ℕ) → links_in k (sets out (20 * j + 16) (le 4 v)) ≡ links_in k out
links_counted zero out j v = refl
links_counted (suc k) out j v =
    ap₂ (λ (ls : List ℕ) (l : ℕ). ls ++ (l ∷ [])) (links_counted k out j v)
    (number_apart 4 (le 4 v) out (20 * j + 16) (20 * k + 12) (⊎_elim (λ (x : j < k). inr (omega arith)) (λ (x : k ≤ j). inl (omega arith)) (below? j k)))

-- where there is room for one more, there was room
pub roomy_still : (count : ℕ) (full : Bool) (out : List ℕ) → Brimming count full out → count < digest_room out → full ≡ false
roomy_still count true out brim free = let e = brim refl in absurd (omega arith)
roomy_still count false out brim free = refl

module _ (s : List ℕ) (t : Terms) (r : Range) (times count head : ℕ) (full : Bool) (out : List ℕ) (keeps : Keeps s count head out) (brim : Brimming count full out) where
  brimful : digest_room out ≤ count → digest_room out ≡ count
  brimful h = omega (arith, keeps.fits, keeps.capped)

  module _ (known : ListTells s count head out (part s r)) where
    -- the length does not fit
    pub came_other : within t.minimum t.maximum (r.to - r.from) ≡ false → Came s t r times count head full out (run count head full) out
    came_other w = record {
      view = view_same s t r count full out (rw w) brim out refl refl;
      next = keeps;
      brims = brim;
      knows = λ new k. k;
      has = λ u h. h;
      grown = inl refl;
      tells = λ T h. tally_unfit s t r times count full out T h w;
    }

    seen : (a : Place) → Sought s (ranges_in count out) (links_in count out) head (part s r) a → seen_in s (ranges_in count out) (part s r) ≡ is_same a
    seen a found =
        known keeps.c keeps.listed ∙ found_seen s (ranges_in count out) (part s r) keeps.c a (found keeps.c keeps.listed)

    -- record u has the letters
    module _ (u : ℕ) (found : Sought s (ranges_in count out) (links_in count out) head (part s r) (Same u)) where
      there : FoundAt s (ranges_in count out) (part s r) keeps.c u
      there = found keeps.c keeps.listed

      pub found_within : (0 < u) × (u ≤ count)
      found_within =
          let l : LinkedThrough (links_in count out) head (there.xs ++ (u ∷ there.ys)) = rw there.whole at keeps.listed.linked in
          let a : Among count (there.xs ++ (u ∷ there.ys)) = rw (length_links count out) at (linked_among (links_in count out) head (there.xs ++ (u ∷ there.ys)) l) in
          let b = among_right count there.xs (u ∷ there.ys) a in
          (b.0, b.1)

      letters : part s (range_at out (20 * (u - 1))) ≡ part s r
      letters = let b = found_within in ap (part s) (sym (range-read count out (u - 1) (omega (arith, b.0, b.1)))) ∙ there.letters

      long : length (times_added out u times) ≡ length out
      long = length-sets out (20 * (u - 1) + 16) (le 4 ((number_at 4 out (20 * (u - 1) + 16) + times) % 4294967296))

      ranges : ranges_in count (times_added out u times) ≡ ranges_in count out
      ranges = ranges-behind (le 4 ((number_at 4 out (20 * (u - 1) + 16) + times) % 4294967296)) (u - 1) (20 * (u - 1) + 16) count out (omega arith) (omega arith)

      links : links_in count (times_added out u times) ≡ links_in count out
      links = links_counted count out (u - 1) ((number_at 4 out (20 * (u - 1) + 16) + times) % 4294967296)

      bare : bared t.protein count (times_added out u times) ≡ bared t.protein count out
      bare = let b = found_within in bared_lost t.protein (le 4 ((number_at 4 out (20 * (u - 1) + 16) + times) % 4294967296)) (u - 1) (20 * (u - 1) + 16) out (omega arith) (omega arith) count (omega (arith, b.0, b.1))

      pub came_found : within t.minimum t.maximum (r.to - r.from) ≡ true → Came s t r times count head full out (run count head full) (times_added out u times)
      came_found fits = record {
        view = view_same s t r count full out (rw (seen (Same u) found) (and-false (within t.minimum t.maximum (r.to - r.from)))) brim (times_added out u times) long bare;
        next = record { small = keeps.small; capped = keeps.capped; fits = rw long keeps.fits; inside = rw ranges keeps.inside; c = keeps.c; listed = rw (ranges, links) keeps.listed };
        brims = λ f. rw long (brim f);
        knows = λ new k. rw (ranges, links) k;
        has = λ v h. record { xs = h.xs; ys = h.ys; linked = rw links h.linked };
        grown = inl ranges;
        tells = λ T h. tally_found s t r times count full out T h fits u found_within.0 found_within.1 keeps.fits letters;
      }

    module _ (p : ℕ) (fits : within t.minimum t.maximum (r.to - r.from) ≡ true) (found : Sought s (ranges_in count out) (links_in count out) head (part s r) (Behind p)) where
      want : wanted s t.minimum t.maximum (ranges_in count out) r ≡ true
      want = rw (fits, seen (Behind p) found)

      pub came_full : digest_room out ≤ count → Came s t r times count head full out (run count head true) out
      came_full h = record {
        view = view_full s t r count full out want (brimful h);
        next = keeps;
        brims = λ f. sym (brimful h);
        knows = λ new k. k;
        has = λ u h. h;
        grown = inl refl;
        tells = λ T g. tally_full s t r times count full out T g (seen (Behind p) found);
      }

      pub place_of_range : PlaceFor s (ranges_in count out) (links_in count out) head p (part s r)
      place_of_range = record { c = keeps.c; listed = keeps.listed; between = found keeps.c keeps.listed }

      within_count : p ≤ count
      within_count = rw (length_links count out) at (place-within s (ranges_in count out) (links_in count out) head p (part s r) place_of_range)

      between : Between s (ranges_in count out) (part s r) keeps.c p
      between = found keeps.c keeps.listed

      old : ListFrom s (ranges_in count out) (links_in count out) head (between.xs ++ between.ys)
      old = rw between.whole at keeps.listed

      module _ (free : count < digest_room out) (i : r.from ≤ r.to) (j : r.to ≤ length s) (first : ℕ) (out' : List ℕ) (g : Inserted s count head p r times out out' first) where
        new-listed : ListFrom s (ranges_in (suc count) out') (links_in (suc count) out') first (between.xs ++ (suc count ∷ between.ys))
        new-listed = g.listed between.xs between.ys old between.last between.lower between.upper

        new_tells : (x : List ℕ) → ListTells s count head out x → ListTells s (suc count) first out' x
        new_tells x k c l =
            let n = length_links count out in
            let m = length-ranges count out in
            let e : c ≡ between.xs ++ (suc count ∷ between.ys) = linked_one (links_in (suc count) out') first c (between.xs ++ (suc count ∷ between.ys)) l.linked new-listed.linked in
            let t = tells_insert s (ranges_in count out) (links_in count out) head r between.xs between.ys x (m ∙ sym n) old (k (between.xs ++ between.ys) old) in
            let t' : Tells s (ranges_in count out ++ (r ∷ [])) (between.xs ++ (suc count ∷ between.ys)) x = subst (λ (v : ℕ). Tells s (ranges_in count out ++ (r ∷ [])) (between.xs ++ (suc v ∷ between.ys)) x) n t in
            rw (e, g.ranges) t'

        new_keeps : Keeps s (suc count) first out'
        new_keeps =
            let u = min-le_right (length out / 20) 1048576 in
            let m = min-le_left (length out / 20) 1048576 in
            let l : length out' ≡ length out = ap length g.bytes ∙ length_inserted (length s) r times count p (next_of (links_in count out) head p) out in
            record {
              small = keeps.small;
              capped = omega arith;
              fits = omega arith;
              inside = rw g.ranges (inside_append (length s) (ranges_in count out) (r ∷ []) keeps.inside (i, j, tt));
              c = between.xs ++ (suc count ∷ between.ys);
              listed = new-listed;
            }

        new-has : (u : ℕ) → Has count head out u → Has (suc count) first out' u
        new-has u h =
            let e : h.xs ++ (u ∷ h.ys) ≡ between.xs ++ between.ys = linked_one (links_in count out) head (h.xs ++ (u ∷ h.ys)) (between.xs ++ between.ys) h.linked old.linked in
            let k = amid_more u (suc count) h.xs h.ys between.xs between.ys e in
            record { xs = k.0; ys = k.1; linked = rw k.2 at new-listed.linked }

        enough : 20 * count + 20 ≤ length out
        enough = let m = min-le_left (length out / 20) 1048576 in omega arith

        roomy : full ≡ false
        roomy = roomy_still count full out brim free

        new_tally : (T : List ℕ → ℕ) → Tally s t count full out T → Tally s t (suc count) false out' (λ x. T x + added_by s t r times x)
        new_tally T h =
            tally_more s t r times count full out T h (seen (Behind p) found) fits roomy out' g.ranges
            (λ k l. ap (times_at k) g.bytes ∙ times-inserted (length s) r times count p (next_of (links_in count out) head p) out enough k ∙ times-written (length s) r times count p (next_of (links_in count out) head p) out enough k l)
            (ap (times_at count) g.bytes ∙ times-inserted (length s) r times count p (next_of (links_in count out) head p) out enough count ∙ times-new (length s) r times count p (next_of (links_in count out) head p) out enough)

        -- it was written and linked in
        pub came_kept : Came s t r times count head full out (run (count + 1) first false) out'
        came_kept = record {
          view = view_more s t r count full out want free roomy out' (ap (bared t.protein (count + 1)) g.bytes ∙ bared-inserted (length s) t.protein r times count p (next_of (links_in count out) head p) out within_count);
          next = rw (add-one count) new_keeps;
          brims = λ f. absurd (clash false f refl);
          knows = λ x k. rw (add-one count) (new_tells x k);
          has = λ u h. rw (add-one count) (new-has u h);
          grown = inr (rw (add-one count) g.ranges);
          tells = λ T h. rw (add-one count) (new_tally T h);
        }

-- no record yet: the list tells of everything
pub keeps_start : (s out : List ℕ) → length s ≤ 65536 → Keeps s 0 0 out
keeps_start s out h = record { small = h; capped = omega arith; fits = omega arith; inside = tt; c = []; listed = listed-none s [] [] }

pub list_tells_start : (s out new : List ℕ) → ListTells s 0 0 out new
list_tells_start s out new [] l = refl
list_tells_start s out new (t ∷ ts) l = let a = l.linked.0 in let b = l.linked.1 in absurd (omega arith)

-- a search may always begin at the first record
pub keeps_begun : (s : List ℕ) (count head : ℕ) (out new : List ℕ) → Keeps s count head out → Begun s (ranges_in count out) (links_in count out) head 0 new
keeps_begun s count head out new k = begun_first s (ranges_in count out) (links_in count out) head new k.c k.listed

-- or at a record of the list that is below
pub has_begun : (s : List ℕ) (count head : ℕ) (out : List ℕ) (t : ℕ) (new : List ℕ) → Keeps s count head out → Has count head out t → compared (record_text s (ranges_in count out) t) new ≡ Less → Begun s (ranges_in count out) (links_in count out) head t new
has_begun s count head out t new k h o =
    let e : k.c ≡ h.xs ++ (t ∷ h.ys) = linked_one (links_in count out) head k.c (h.xs ++ (t ∷ h.ys)) k.listed.linked h.linked in
    let l : ListFrom s (ranges_in count out) (links_in count out) head (h.xs ++ (t ∷ h.ys)) = rw e at k.listed in
    begun_at s (ranges_in count out) (links_in count out) head new t h.xs h.ys l o

-- ---- the records of the list

-- each is one of the first count
pub has_within : (count head : ℕ) (out : List ℕ) (t : ℕ) → Has count head out t → (0 < t) × (t ≤ count)
has_within count head out t h =
    let a : Among count (h.xs ++ (t ∷ h.ys)) = rw (length_links count out) at (linked_among (links_in count out) head (h.xs ++ (t ∷ h.ys)) h.linked) in
    let b = among_right count h.xs (t ∷ h.ys) a in
    (b.0, b.1)

-- the first one, if there is one
pub has_first : (count head : ℕ) (out : List ℕ) (c : List ℕ) → LinkedThrough (links_in count out) head c → 0 < head → Has count head out head
has_first count head out [] l h = absurd (omega arith)
has_first count head out (t ∷ ts) l h =
    let e : head ≡ t = l.0 in
    record { xs = []; ys = ts; linked = (refl, h, rw e l.2, rw e l.3) }

-- the one behind a record, if there is one
pub has-next : (count head : ℕ) (out : List ℕ) (t : ℕ) → Has count head out t → 0 < next_of (links_in count out) head t → Has count head out (next_of (links_in count out) head t)
has-next count head out t h p =
    let e : (h.xs ++ (t ∷ [])) ++ h.ys ≡ h.xs ++ (t ∷ h.ys) = append_assoc h.xs (t ∷ []) h.ys in
    let l : LinkedThrough (links_in count out) head ((h.xs ++ (t ∷ [])) ++ h.ys) = rw e h.linked in
    let m : LinkedThrough (links_in count out) (next_of (links_in count out) head t) h.ys = rw (last_snoc 0 h.xs t) at (linked_behind (links_in count out) head (h.xs ++ (t ∷ [])) h.ys l) in
    go h.ys m h.linked
  where
    go : (ys : List ℕ) → LinkedThrough (links_in count out) (next_of (links_in count out) head t) ys → LinkedThrough (links_in count out) head (h.xs ++ (t ∷ ys)) → Has count head out (next_of (links_in count out) head t)
    go [] m l = absurd (omega arith)
    go (y ∷ ys) m l =
        let e : y ≡ next_of (links_in count out) head t = sym m.0 in
        record { xs = h.xs ++ (t ∷ []); ys = ys; linked = rw (append_assoc h.xs (t ∷ []) (next_of (links_in count out) head t ∷ ys), ← e) l }
