-- Laws of a range that is known to be new: it is written and not linked in. Assumes nothing.
use Rattle.std.specs.Prelude.{ℕ, suc, ◌+◌, ◌-◌, ◌*◌, ◌/◌, ◌≤◌, ◌<◌, ◌≡◌, refl, Bool, true, false, List, [], ◌∷◌, ◌++◌, length}
use Rattle.std.proofs.Common.{sym, ◌∙◌, inl, inr, arith, add-one, length-append}
use Rattle.std.proofs.Math.Nat.{min-le_left, min-le_right}
use Rattle.std.proofs.lemmas.List.Edits.{sets}
use Rattle.std.proofs.Math.Seq.{length-sets}
use Rattle.lists.specs.Lists.{same}
use Rattle.enzyme_cuts.specs.Cutting.{Range, part, seen_in, within, wanted}
use Rattle.enzyme_cuts.specs.InsideLaws.{inside_append}
use Rattle.enzyme_keep.specs.declared.offering.Terms.{Terms}
use Rattle.enzyme_keep.specs.Digests.{record_of}
use Rattle.enzyme_keep.specs.Buffer.{ranges_in, links_in}
use Rattle.enzyme_keep.specs.BufferLaws.{length-ranges, length_links, ranges_more, links_more, bared-more}
use Rattle.enzyme_keep.specs.Steps.{digest_room}
use Rattle.enzyme_list.specs.Chain.{ListFrom}
use Rattle.enzyme_list.specs.ChainLaws.{linked_one}
use Rattle.enzyme_list.specs.InsertLaws.{Among, linked_among, linked_grown, rises_grown}
use Rattle.enzyme_list.specs.AdviceLaws.{tells_put}
use Rattle.enzyme_list.specs.Tally.{added_by, Tally}
use Rattle.enzyme_list.specs.TallyLaws.{clash, tally_unfit, tally_full, tally_more}
use Rattle.enzyme_list.specs.Offer.{Keeps, ListTells, Has, run, Brimming, CameUnlinked}
use Rattle.enzyme_list.specs.OfferLaws.{times-written, times-new, view_same, view_full, view_more, roomy_still}

listed_grown : (s : List ℕ) (ks : List Range) (ls : List ℕ) (head : ℕ) (r : Range) (x : ℕ) (c : List ℕ) → length ks ≡ length ls → ListFrom s ks ls head c → ListFrom s (ks ++ (r ∷ [])) (ls ++ (x ∷ [])) head c
listed_grown s ks ls head r x c n l =
    let a : Among (length ks) c = rw n (linked_among ls head c l.linked) in
    let k = length-append ls (x ∷ []) in
    let f = l.few in
    record { linked = linked_grown ls x head c l.linked; rises = rises_grown s ks r c a l.rises; few = omega arith }

module _ (s : List ℕ) (t : Terms) (r : Range) (times count head : ℕ) (full : Bool) (out : List ℕ) (keeps : Keeps s count head out) (brim : Brimming count full out) where
  -- the length does not fit
  pub unlinked_other : within t.minimum t.maximum (r.to - r.from) ≡ false → CameUnlinked s t r times count head full out (run count head full) out
  unlinked_other w = record {
    view = view_same s t r count full out (rw w) brim out refl refl;
    next = keeps;
    brims = brim;
    knows = λ new x k. k;
    has = λ u h. h;
    grown = inl refl;
    tells = λ T h. tally_unfit s t r times count full out T h w;
  }

  module _ (fits : within t.minimum t.maximum (r.to - r.from) ≡ true) (fresh : seen_in s (ranges_in count out) (part s r) ≡ false) where
    want : wanted s t.minimum t.maximum (ranges_in count out) r ≡ true
    want = rw (fits, fresh)

    pub unlinked_full : digest_room out ≤ count → CameUnlinked s t r times count head full out (run count head true) out
    unlinked_full h =
        let f : digest_room out ≡ count = omega (arith, keeps.fits, keeps.capped) in
        record {
          view = view_full s t r count full out want f;
          next = keeps;
          brims = λ g. sym f;
          knows = λ new x k. k;
          has = λ u h. h;
          grown = inl refl;
          tells = λ T g. tally_full s t r times count full out T g fresh;
        }

    module _ (free : count < digest_room out) (i : r.from ≤ r.to) (j : r.to ≤ length s) where
      enough : 20 * count + 20 ≤ length out
      enough = let m = min-le_left (length out / 20) 1048576 in omega arith

      ranges : ranges_in (suc count) (sets out (20 * count) (record_of (length s) 0 r times)) ≡ ranges_in count out ++ (r ∷ [])
      ranges = ranges_more (length s) 0 r times count out enough keeps.small i j

      links : links_in (suc count) (sets out (20 * count) (record_of (length s) 0 r times)) ≡ links_in count out ++ (0 ∷ [])
      links = links_more (length s) 0 r times count out enough (omega arith)

      alike : length (ranges_in count out) ≡ length (links_in count out)
      alike = length-ranges count out ∙ sym (length_links count out)

      now_listed : ListFrom s (ranges_in (suc count) (sets out (20 * count) (record_of (length s) 0 r times))) (links_in (suc count) (sets out (20 * count) (record_of (length s) 0 r times))) head keeps.c
      now_listed = rw (ranges, links) (listed_grown s (ranges_in count out) (links_in count out) head r 0 keeps.c alike keeps.listed)

      now_keeps : Keeps s (suc count) head (sets out (20 * count) (record_of (length s) 0 r times))
      now_keeps =
          let u = min-le_right (length out / 20) 1048576 in
          let m = enough in
          let l = length-sets out (20 * count) (record_of (length s) 0 r times) in
          record {
            small = keeps.small;
            capped = omega arith;
            fits = omega arith;
            inside = rw ranges (inside_append (length s) (ranges_in count out) (r ∷ []) keeps.inside (i, j, tt));
            c = keeps.c;
            listed = now_listed;
          }

      now_knows : (x : List ℕ) → same (part s r) x ≡ false → ListTells s count head out x → ListTells s (suc count) head (sets out (20 * count) (record_of (length s) 0 r times)) x
      now_knows x d k c l =
          let e : c ≡ keeps.c = linked_one (links_in (suc count) (sets out (20 * count) (record_of (length s) 0 r times))) head c keeps.c l.linked now_listed.linked in
          let t' = tells_put s (ranges_in count out) (links_in count out) head r keeps.c x alike keeps.listed d (k keeps.c keeps.listed) in
          rw (e, ranges) t'

      now_has : (u : ℕ) → Has count head out u → Has (suc count) head (sets out (20 * count) (record_of (length s) 0 r times)) u
      now_has u h = record { xs = h.xs; ys = h.ys; linked = rw links (linked_grown (links_in count out) 0 head (h.xs ++ (u ∷ h.ys)) h.linked) }

      roomy : full ≡ false
      roomy = roomy_still count full out brim free

      now_tally : (T : List ℕ → ℕ) → Tally s t count full out T → Tally s t (suc count) false (sets out (20 * count) (record_of (length s) 0 r times)) (λ x. T x + added_by s t r times x)
      now_tally T h =
          tally_more s t r times count full out T h fresh fits roomy (sets out (20 * count) (record_of (length s) 0 r times)) ranges
          (λ k l. times-written (length s) r times count 0 0 out enough k l) (times-new (length s) r times count 0 0 out enough)

      pub unlinked_kept : CameUnlinked s t r times count head full out (run (count + 1) head false) (sets out (20 * count) (record_of (length s) 0 r times))
      unlinked_kept = record {
        view = view_more s t r count full out want free roomy (sets out (20 * count) (record_of (length s) 0 r times)) (bared-more (length s) t.protein 0 r times count out);
        next = rw (add-one count) now_keeps;
        brims = λ f. absurd (clash false f refl);
        knows = λ x d k. rw (add-one count) (now_knows x d k);
        has = λ u h. rw (add-one count) (now_has u h);
        grown = inr (rw (add-one count) ranges);
        tells = λ T h. rw (add-one count) (now_tally T h);
      }
