-- The whole list of semi ranges may be offered; once it was, the records are the digests and have their numbers. Assumes nothing.
use Rattle.std.specs.Prelude.{ℕ, suc, ◌+◌, ◌-◌, ◌*◌, ◌≤◌, ◌<◌, ◌≡◌, refl, Bool, true, false, List, [], ◌++◌, length}
use Rattle.std.proofs.Common.{sym, ap, ap₂, subst, ◌∙◌, append-nil, arith}
use Rattle.records.specs.Le.{le}
use Rattle.enzyme_cuts.specs.declared.kinds.Knife.{Knife}
use Rattle.enzyme_cuts.specs.Cutting.{Range, part, within, set_sites, windows_from, having}
use Rattle.enzyme_cuts.specs.Work.{RangesWithin}
use Rattle.enzyme_cuts.specs.InsideLaws.{part_length}
use Rattle.enzyme_keep.specs.declared.offering.Terms.{Terms}
use Rattle.enzyme_keep.specs.Buffer.{range_at, sealed, times_at}
use Rattle.enzyme_keep.specs.BufferLaws.{read_inside}
use Rattle.enzyme_keep.specs.Steps.{after, offers, standing, among}
use Rattle.enzyme_keep.specs.StepLaws.{view_told}
use Rattle.enzyme_windows.specs.Pieces.{pieces}
use Rattle.enzyme_windows.specs.PieceLaws.{end_to_end_pieces}
use Rattle.enzyme_windows.specs.SiteLaws.{non_empty}
use Rattle.enzyme_windows.proofs.FilledLaws.{sites-pieces}
use Rattle.enzyme_windows.specs.WindowLaws.{length-placed}
use Rattle.enzyme_windows.specs.StartLaws.{piece_start}
use Rattle.enzyme_once.specs.Once.{each_once}
use Rattle.enzyme_once.specs.SpotLaws.{spots}
use Rattle.enzyme_once.specs.DistinctLaws.{NoRangeTwice}
use Rattle.enzyme_fresh.specs.Fresh.{fresh}
use Rattle.enzyme_fresh.proofs.KeptLaws.{placed-spots}
use Rattle.enzyme_fresh.proofs.FreshLaws.{fresh_inside, fresh-once, fresh-offers}
use Rattle.enzyme_sites.specs.Starts.{Starts}
use Rattle.enzyme_words.specs.Words.{Far}
use Rattle.enzyme_list.specs.Tally.{step_at}
use Rattle.enzyme_samples.specs.declared.offering.Run.{Run}
use Rattle.enzyme_samples.specs.Ready.{run_started, Weighted, ranges, loaded, added, RangesReady, run_step, Offers}
use Rattle.enzyme_samples.specs.ReadyLaws.{ranges_append, ranges-loaded, ready_start, tallied_start}
use Rattle.enzyme_parts.specs.Walk.{sites_in}
use Rattle.enzyme_parts.specs.Weighed.{weigh_from}
use Rattle.enzyme_semi.specs.SpotLaws.{non_empty-spots}
use Rattle.enzyme_semi.specs.WeighedLaws.{SkipsAs, weigh_ranges}
use Rattle.enzyme_semi.specs.TallyLaws.{weighed_adds}
use Rattle.enzyme_semi.specs.WeightLaws.{weight_of, known_share, weight_skips, weights-all, share-repeats}

-- all windows of the sites rs, and behind them their parts with their weights
abbrev pub semi_of : (ℕ → ℕ → ℕ) → ℕ → List Range → List Weighted
semi_of w missed rs = loaded 1 (windows_from 0 (suc missed) rs) ++ weigh_from w 0 (suc missed) rs

module _ (looked : Bool) (k : Knife) (missed : ℕ) (s : List ℕ) where
  abbrev weight : ℕ → ℕ → ℕ
  weight = weight_of looked (pieces k s)

  as_spots : non_empty (set_sites k 0 0 s) ≡ spots (piece_start (pieces k s)) 0 (length (pieces k s))
  as_spots = sites-pieces k s ∙ placed-spots (pieces k s) 0 (length (pieces k s)) (omega arith)

  -- the ranges without their weights
  semi_ranges : ranges (semi_of weight missed (non_empty (set_sites k 0 0 s))) ≡ fresh (known_share looked (pieces k s)) k missed s
  semi_ranges =
      let rs = non_empty (set_sites k 0 0 s) in
      let n : length rs ≡ length (pieces k s) = ap length (sites-pieces k s) ∙ length-placed 0 (pieces k s) in
      ranges_append (loaded 1 (windows_from 0 (suc missed) rs)) (weigh_from weight 0 (suc missed) rs)
      ∙ ap₂ (λ (xs ys : List Range). xs ++ ys) (ranges-loaded 1 (windows_from 0 (suc missed) rs)) (weigh_ranges weight (known_share looked (pieces k s)) rs (subst (SkipsAs weight (known_share looked (pieces k s))) (sym n) (weight_skips (pieces k s) looked)) (suc missed) 0)

  semi_inside : RangesWithin (length s) (ranges (semi_of weight missed (non_empty (set_sites k 0 0 s))))
  semi_inside = rw semi_ranges (fresh_inside (known_share looked (pieces k s)) k missed s)

  semi_once : NoRangeTwice (ranges (semi_of weight missed (non_empty (set_sites k 0 0 s))))
  semi_once = rw semi_ranges (fresh-once (known_share looked (pieces k s)) k missed s)

  -- what they add to letters whose length is within the limits
  semi_adds : (t : Terms) (x : List ℕ) → within t.minimum t.maximum (length x) ≡ true
      → added s t (semi_of weight missed (non_empty (set_sites k 0 0 s))) x ≡ having s (each_once k true missed s) x
  semi_adds t x h =
      rw as_spots (weighed_adds s (pieces k s) (end_to_end_pieces k s) x weight (weights-all (pieces k s) looked) t (suc missed) (rw as_spots at semi_inside) h)

  module _ (x : List ℕ) (m : ℕ) (g : Starts k s x m) (f out marks : List ℕ) where
    pub semi_ready : length s ≤ 65536 → Far s f → RangesReady s f (semi_of weight missed (sites_in x m)) run_started out marks
    semi_ready small far = rw (non_empty-spots k s x m g) at (ready_start s f (semi_of weight missed (non_empty (set_sites k 0 0 s))) out marks small far semi_inside semi_once)

    module _ (t : Terms) (small : length s ≤ 65536) (far : Far s f) (run : Run) (o b : List ℕ) (y : Offers s f t (semi_of weight missed (sites_in x m)) run_started out marks run o b) where
      done : Offers s f t (semi_of weight missed (non_empty (set_sites k 0 0 s))) run_started out marks run o b
      done = rw (non_empty-spots k s x m g) y

      left : RangesReady s f [] run o b
      left = done.next [] (rw (append-nil (semi_of weight missed (non_empty (set_sites k 0 0 s)))) (ready_start s f (semi_of weight missed (non_empty (set_sites k 0 0 s))) out marks small far semi_inside semi_once))

      -- as many records stand as were counted
      stand : standing (run_step run) o ≡ run.count
      stand = go run.full refl
        where
          go : (z : Bool) → run.full ≡ z → standing (step_at run.count z) o ≡ run.count
          go true e = sym (left.brims e)
          go false e = refl

      pub semi_room : 20 * standing (run_step run) o ≤ length o
      semi_room = rw stand left.keeps.fits

      told : (i : ℕ) → i < standing (run_step run) o → times_at i o ≡ le 4 (among s (each_once k true missed s) (range_at o (20 * i)))
      told i h =
          let l : i < run.count = rw stand at h in
          let r = range_at o (20 * i) in
          let w = done.tells (λ z. 0) (tallied_start s t out) in
          let p = read_inside run.count o i r.from r.to l refl refl (length s) left.keeps.inside in
          let n : length (part s r) ≡ r.to - r.from = part_length s r p.0 p.1 in
          let q : within t.minimum t.maximum (length (part s r)) ≡ true = rw n (w.fit i l) in
          let a = semi_adds t (part s r) q in
          let z : 0 + added s t (semi_of weight missed (non_empty (set_sites k 0 0 s))) (part s r) ≡ having s (each_once k true missed s) (part s r) = omega arith in
          w.told i l ∙ ap (le 4) z

      -- with the protein in the place of the links these are the digests
      pub semi_listed : after (run_step run) (sealed t.protein (standing (run_step run) o) o) ≡ offers s t (among s (each_once k true missed s)) (each_once k true missed s) 0 out
      semi_listed =
          let u = among s (each_once k true missed s) in
          view_told s t u small (ranges (semi_of weight missed (non_empty (set_sites k 0 0 s)))) semi_inside out (run_step run) o done.view told semi_room
          ∙ ap (λ (rs : List Range). offers s t u rs 0 out) semi_ranges
          ∙ fresh-offers (known_share looked (pieces k s)) k missed s (share-repeats (pieces k s) looked) small t u out
