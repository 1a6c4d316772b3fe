-- Laws of one range that is offered: written, or sought and linked in. Assumes nothing.
use Rattle.std.specs.Prelude.{ℕ, ◌+◌, ◌-◌, ◌≤◌, ◌<◌, ◌≡◌, Bool, false, ◌⊎◌, List, [], ◌∷◌, ◌++◌, length, get_or}
use Rattle.std.proofs.Common.{sym, subst, inl, inr, append_assoc, arith}
use Rattle.lists.specs.Lists.{same}
use Rattle.enzyme_cuts.specs.Cutting.{Range, site, part, seen_in, within}
use Rattle.enzyme_keep.specs.declared.offering.Terms.{Terms}
use Rattle.enzyme_keep.specs.Buffer.{ranges_in}
use Rattle.enzyme_once.specs.DistinctLaws.{NoRangeTwice}
use Rattle.enzyme_list.specs.declared.offering.Run.{Run as Ends}
use Rattle.enzyme_list.specs.Tally.{added_by, Tally}
use Rattle.enzyme_list.specs.Offer.{Came, CameUnlinked}
use Rattle.enzyme_list.specs.WriteLaws.{unlinked_other}
use Rattle.enzyme_search.specs.Marks.{mark_at, SamplesListed}
use Rattle.enzyme_samples.specs.declared.offering.Run.{Run}
use Rattle.enzyme_samples.specs.Ready.{Weighted, ranges, added, RangesReady, Offers, Noted}
use Rattle.enzyme_samples.specs.ReadyLaws.{distinct_less, far_new, far_unseen, tally_alike}

-- the records and the list as they are now, with these samples
abbrev pub run_with : Ends → ℕ → ℕ → Run
run_with at samples limit = record { count = at.count; head = at.head; samples = samples; limit = limit; full = at.full }

grown_distinct : (ks now : List Range) (r : Range) (rest : List Range) → (now ≡ ks) ⊎ (now ≡ ks ++ (r ∷ [])) → NoRangeTwice (ks ++ (r ∷ rest)) → NoRangeTwice (now ++ rest)
grown_distinct ks now r rest (inl e) d = rw e (distinct_less ks r rest d)
grown_distinct ks now r rest (inr e) d = rw (e, append_assoc ks (r ∷ []) rest) d

-- what a list of one range adds
tally_one : {s : List ℕ} {t : Terms} {count : ℕ} {full : Bool} {out : List ℕ} (w : Weighted) (T : List ℕ → ℕ)
    → Tally s t count full out (λ x. T x + added_by s t w.range w.times x) → Tally s t count full out (λ x. T x + added s t (w ∷ []) x)
tally_one {s} {t} w T h = tally_alike (λ x. T x + added_by s t w.range w.times x) (λ x. T x + added s t (w ∷ []) x) (λ x. omega arith) h

module _ (s f : List ℕ) (t : Terms) (w : Weighted) (run : Run) (out marks : List ℕ) where
  module _ (out' marks' : List ℕ) where
    -- it was sought, whatever became of the samples
    pub sought_left : (at : Ends) (samples limit : ℕ) → Came s t w.range w.times run.count run.head run.full out at out' → SamplesListed at.count at.head out' marks' samples
        → Offers s f t (w ∷ []) run out marks (run_with at samples limit) out' marks'
    sought_left at samples limit c m = record {
      view = c.view;
      next = λ rest h. record {
        keeps = c.next;
        far = h.far;
        knows = λ a e i j l. c.knows (part s (site a e)) (h.knows a e i j l);
        marked = m;
        inside = h.inside.2;
        once = grown_distinct (ranges_in run.count out) (ranges_in at.count out') w.range (ranges rest) c.grown h.once;
        brims = c.brims;
      };
      tells = λ T h. tally_one w T (c.tells T h);
    }

    pub sought_noted : (at : Ends) (samples limit : ℕ) (now : Run) → Came s t w.range w.times run.count run.head run.full out at out' → Noted (run_with at samples limit) out' marks' now
        → Offers s f t (w ∷ []) run out marks now out' marks'
    sought_noted at samples limit now c n =
        let e : run_with at now.samples now.limit ≡ now = λ k. record { count = sym n.count k; head = sym n.head k; samples = now.samples; limit = now.limit; full = sym n.full k } in
        subst (λ (x : Run). Offers s f t (w ∷ []) run out marks x out' marks') e (sought_left at now.samples now.limit c n.marked)

    -- each sample is still a record of the list
    pub sought_marked : (at : Ends) → RangesReady s f (w ∷ []) run out marks → Came s t w.range w.times run.count run.head run.full out at out' → SamplesListed at.count at.head out' marks run.samples
    sought_marked at h c = record { room = h.marked.room; listed = λ i l. c.has (mark_at marks i) (h.marked.listed i l) }

  module _ (long : get_or f w.range.from 0 < w.range.to - w.range.from) where
    -- no record has its letters
    pub written_new : RangesReady s f (w ∷ []) run out marks → seen_in s (ranges_in run.count out) (part s w.range) ≡ false
    written_new h = far_unseen s f (ranges_in run.count out) w.range [] h.far h.keeps.inside h.inside.0 h.inside.1 long h.once

    -- nor has what the list is to tell of
    written_other : (rest : List Weighted) → RangesReady s f (w ∷ rest) run out marks → (a e : ℕ) → a ≤ e → e ≤ length s → e - a ≤ get_or f a 0 → same (part s w.range) (part s (site a e)) ≡ false
    written_other rest h a e i j l = far_new s f w.range (site a e) h.far h.inside.0 h.inside.1 i j long no
      where
        no : (a ≡ w.range.from) × (e ≡ w.range.to) → ⊥
        no p =
            let q : get_or f w.range.from 0 < e - a = rw (p.0, p.1) long in
            let k : e - a ≤ get_or f w.range.from 0 = rw (← p.0) l in
            omega arith

    -- it was written, if there was room
    pub written-left : (out' : List ℕ) (at : Ends) (limit : ℕ) → CameUnlinked s t w.range w.times run.count run.head run.full out at out'
        → Offers s f t (w ∷ []) run out marks (run_with at run.samples limit) out' marks
    written-left out' at limit c = record {
      view = c.view;
      next = λ rest h. record {
        keeps = c.next;
        far = h.far;
        knows = λ a e i j l. c.knows (part s (site a e)) (written_other rest h a e i j l) (h.knows a e i j l);
        marked = record { room = h.marked.room; listed = λ i l. c.has (mark_at marks i) (h.marked.listed i l) };
        inside = h.inside.2;
        once = grown_distinct (ranges_in run.count out) (ranges_in at.count out') w.range (ranges rest) c.grown h.once;
        brims = c.brims;
      };
      tells = λ T h. tally_one w T (c.tells T h);
    }

  -- its length does not fit
  pub unfit-left : within t.minimum t.maximum (w.range.to - w.range.from) ≡ false → RangesReady s f (w ∷ []) run out marks → Offers s f t (w ∷ []) run out marks run out marks
  unfit-left e g =
      let c = unlinked_other s t w.range w.times run.count run.head run.full out g.keeps g.brims e in
      record {
        view = c.view;
        next = λ rest h. record {
          keeps = h.keeps;
          far = h.far;
          knows = h.knows;
          marked = h.marked;
          inside = h.inside.2;
          once = distinct_less (ranges_in run.count out) w.range (ranges rest) h.once;
          brims = h.brims;
        };
        tells = λ T h. tally_one w T (c.tells T h);
      }
