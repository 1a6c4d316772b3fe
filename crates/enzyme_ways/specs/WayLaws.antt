-- Each way keeps the digests, and tells how often their letters occur. Assumes nothing.
use Rattle.std.specs.Prelude.{ℕ, zero, suc, ◌+◌, ◌-◌, ◌≤◌, ◌<◌, ◌≡◌, refl, true, ◌&&◌, length, ltb, leb}
use Rattle.std.proofs.Common.{sym, ap, subst, ◌∙◌, inl, inr, ⊎_elim, arith, leb-true}
use Rattle.std.proofs.Math.Bool.{and-true}
use mathlib.Core.List.{List, [], ◌∷◌, ◌++◌, foldl}
use Rattle.lists.specs.Tests.{both}
use Rattle.lists.specs.SameLaws.{same_refl}
use Rattle.letters.specs.declared.letter_set.LetterSet.{LetterSet}
use Rattle.enzyme_cuts.specs.declared.kinds.Kind.{Kind}
use Rattle.enzyme_cuts.specs.declared.kinds.Kind.TheVariants.{None, End, Set}
use Rattle.enzyme_cuts.specs.declared.kinds.Enzyme.{Enzyme}
use Rattle.enzyme_cuts.specs.Cutting.{Range, range, site, knife, meant, starting, of_length, of_lengths, none_sites, end_sites, with_windows, candidates, digests, part, within, kept, occurs}
use Rattle.enzyme_cuts.specs.Work.{RangesWithin, work_of, work}
use Rattle.enzyme_cuts.specs.KeepLaws.{work_keeps, end_windows}
use Rattle.enzyme_cuts.specs.InsideLaws.{inside_work, part_length}
use Rattle.enzyme_keep.specs.declared.offering.Terms.{Terms}
use Rattle.enzyme_keep.specs.Digests.{record_of}
use Rattle.enzyme_keep.specs.Steps.{digest_room, decided, offered, offers, among}
use Rattle.enzyme_keep.specs.StepLaws.{offers-one, offers-alike}
use Rattle.enzyme_once.specs.Once.{each_once}
use Rattle.enzyme_once.specs.OnceLaws.{once_keeps, once-all, once-some}
use Rattle.enzyme_once.specs.RangeLaws.{once_inside}
use Rattle.enzyme_once.specs.ThinLaws.{Hit, hit_either}
use Rattle.enzyme_once.specs.DistinctLaws.{NoRangeTwice, distinct_append, once-once}
use Rattle.enzyme_once.specs.OccursLaws.{occurs-once, having-own, having_most}
use Rattle.enzyme_ways.specs.Ways.{way_of, way}

-- ---- "none": no range stands twice

starting_of : (len i n a e : ℕ) → Hit a e (starting len i n) → (i ≤ a) × (e ≡ a + len)
starting_of len i zero a e h = absurd h
starting_of len i (suc n) a e (inl h) = let p = h.0 in (omega arith, sym h.1 ∙ ap (λ (x : ℕ). x + len) h.0)
starting_of len i (suc n) a e (inr h) = let g = starting_of len (suc i) n a e h in let p = g.0 in (omega arith, g.1)

starting-once : (len i n : ℕ) → NoRangeTwice (starting len i n)
starting-once len i zero = tt
starting-once len i (suc n) = (λ h. let g = starting_of len (suc i) n i (i + len) h in let p = g.0 in omega arith, starting-once len (suc i) n)

lengths_of : (n len m a e : ℕ) → Hit a e (of_lengths n len m) → len ≤ e - a
lengths_of n len zero a e h = absurd h
lengths_of n len (suc m) a e h =
    ⊎_elim (λ (g : Hit a e (of_length n len)). let p = (starting_of len 0 (suc n - len) a e g).1 in omega arith)
    (λ (g : Hit a e (of_lengths n (suc len) m)). let p = lengths_of n (suc len) m a e g in omega arith) (hit_either a e (of_length n len) (of_lengths n (suc len) m) h)

lengths_once : (n len m : ℕ) → NoRangeTwice (of_lengths n len m)
lengths_once n len zero = tt
lengths_once n len (suc m) =
    distinct_append (of_length n len) (of_lengths n (suc len) m) (starting-once len 0 (suc n - len)) (lengths_once n (suc len) m)
    (λ a e u v. let p = (starting_of len 0 (suc n - len) a e u).1 in let q = lengths_of n (suc len) m a e v in omega arith)

-- ---- "end": one range

end_hit : (n missed a e : ℕ) → a < e → Hit a e (with_windows missed (end_sites n)) → Hit a e (site 0 n ∷ [])
end_hit n zero a e l (inl h) = inl h
end_hit n zero a e l (inr (inl h)) = let p = h.0 in let q = h.1 in absurd (omega arith)
end_hit n zero a e l (inr (inr h)) = absurd h
end_hit n (suc m) a e l h = go (subst (λ (ws : List Range). Hit a e (end_sites n ++ ws)) (end_windows m (site 0 n) (site n n)) h)
  where
    go : Hit a e (site 0 n ∷ site n n ∷ site 0 n ∷ site n n ∷ range 0 n 1 0 ∷ []) → Hit a e (site 0 n ∷ [])
    go (inl h) = inl h
    go (inr (inl h)) = let p = h.0 in let q = h.1 in absurd (omega arith)
    go (inr (inr (inl h))) = inl h
    go (inr (inr (inr (inl h)))) = let p = h.0 in let q = h.1 in absurd (omega arith)
    go (inr (inr (inr (inr (inl h))))) = inl h
    go (inr (inr (inr (inr (inr h))))) = absurd h

hit_end : (n missed a e : ℕ) → Hit a e (site 0 n ∷ []) → Hit a e (with_windows missed (end_sites n))
hit_end n zero a e (inl h) = inl h
hit_end n zero a e (inr h) = absurd h
hit_end n (suc m) a e (inl h) = inl h
hit_end n (suc m) a e (inr h) = absurd h

module _ (e : Enzyme) (missed mn mx : ℕ) (s : List ℕ) where
  -- what holds of the candidates of "none" and "end", and of each range of a set once, holds of the way
  either : (P : List Range → Type 0) → (meant e.kind ≡ None → P (none_sites (length s) mn mx)) → (meant e.kind ≡ End → P (site 0 (length s) ∷ []))
      → ((cleave : LetterSet) → meant e.kind ≡ Set cleave → P (each_once (knife cleave e.skip e.side) e.semi missed s)) → P (way e missed mn mx s)
  either P n w o = go (meant e.kind) refl
    where
      go : (K : Kind) → meant e.kind ≡ K → P (way_of K e missed mn mx s)
      go None f = n f
      go End f = w f
      go (Set cleave) f = o cleave f

  -- THE LAW: the digests are what is kept of the way
  pub way_keeps : foldl (kept s mn mx) [] (way e missed mn mx s) ≡ digests e missed mn mx s
  way_keeps = either (λ rs. foldl (kept s mn mx) [] rs ≡ digests e missed mn mx s)
      (λ f. by f (work_keeps s mn mx e missed)) (λ f. by f (work_keeps s mn mx e missed)) (λ cleave f. once_keeps e cleave f missed s mn mx)
    where
      by : {K : Kind} → meant e.kind ≡ K → foldl (kept s mn mx) [] (work e missed mn mx s) ≡ digests e missed mn mx s → foldl (kept s mn mx) [] (work_of K e missed mn mx s) ≡ digests e missed mn mx s
      by f = subst (λ (K : Kind). foldl (kept s mn mx) [] (work_of K e missed mn mx s) ≡ digests e missed mn mx s) f

  pub way_inside : RangesWithin (length s) (way e missed mn mx s)
  way_inside = either (RangesWithin (length s))
      (λ f. rw f at (inside_work e missed mn mx s)) (λ f. rw f at (inside_work e missed mn mx s)) (λ cleave f. once_inside (knife cleave e.skip e.side) e.semi missed s)

  way-once : NoRangeTwice (way e missed mn mx s)
  way-once = either NoRangeTwice (λ f. lengths_once (length s) mn (suc mx - mn)) (λ f. (λ h. h, tt)) (λ cleave f. once-once (knife cleave e.skip e.side) e.semi missed s)

  way-all : (a b : ℕ) → a < b → Hit a b (candidates e missed mn mx s) → Hit a b (way e missed mn mx s)
  way-all a b l = either (λ rs. Hit a b (candidates e missed mn mx s) → Hit a b rs)
      (λ f h. rw f at h) (λ f h. end_hit (length s) missed a b l (rw f at h)) (λ cleave f h. once-all e cleave f missed s mn mx a b l h)

  way-some : (a b : ℕ) → Hit a b (way e missed mn mx s) → Hit a b (candidates e missed mn mx s)
  way-some a b = either (λ rs. Hit a b rs → Hit a b (candidates e missed mn mx s))
      (λ f h. rw f h) (λ f h. rw f (hit_end (length s) missed a b h)) (λ cleave f h. once-some e cleave f missed s mn mx a b h)

  -- THE LAW: letters stand in the way as often as they occur
  pub way-occurs : (r : Range) → r.from < r.to → r.to ≤ length s → occurs s (candidates e missed mn mx s) r ≡ among s (way e missed mn mx s) r
  way-occurs = occurs-once s (candidates e missed mn mx s) (way e missed mn mx s) way-once way-all way-some

  -- a site counts itself, and no letters stand more than once at a start
  pub times_bounds : (r : Range) → r.from < r.to → Hit r.from r.to (candidates e missed mn mx s)
      → (1 ≤ occurs s (candidates e missed mn mx s) r) × (occurs s (candidates e missed mn mx s) r ≤ length s)
  times_bounds r l h =
      let g = way-all r.from r.to l h in
      let i = hit_within (length s) r.from r.to (way e missed mn mx s) way_inside g in
      let p = part_length s r (omega arith) i in
      let a = having-own s (part s r) (omega arith) (way e missed mn mx s) r way-once refl g in
      let b = having_most s (part s r) (omega arith) (way e missed mn mx s) way-once way_inside in
      rw (way-occurs r l i) (a, b)
    where
      hit_within : (n a b : ℕ) (rs : List Range) → RangesWithin n rs → Hit a b rs → b ≤ n
      hit_within n a b [] i h = absurd h
      hit_within n a b (q ∷ qs) i (inl h) = let u = h.1 in let v = i.1 in omega arith
      hit_within n a b (q ∷ qs) i (inr h) = hit_within n a b qs i.2 h

pub way_tells : (e : Enzyme) (missed : ℕ) (t : Terms) (s out : List ℕ)
    → offers s t (among s (way e missed t.minimum t.maximum s)) (way e missed t.minimum t.maximum s) 0 out
    ≡ offers s t (occurs s (candidates e missed t.minimum t.maximum s)) (way e missed t.minimum t.maximum s) 0 out
way_tells e missed t s out =
    let cs = way e missed t.minimum t.maximum s in
    offers-alike s t (among s cs) (occurs s (candidates e missed t.minimum t.maximum s)) (length s) cs (way_inside e missed t.minimum t.maximum s)
    (λ r w i. sym (way-occurs e missed t.minimum t.maximum s r (filled r w) i)) 0 out
  where
    filled : (r : Range) → within t.minimum t.maximum (r.to - r.from) ≡ true → r.from < r.to
    filled r w =
        let n : ℕ = r.to - r.from in
        let a = both (leb 1 n && leb t.minimum n) (leb n t.maximum) w in
        let b = both (leb 1 n) (leb t.minimum n) a.0 in
        let l = leb-true 1 n b.0 in
        omega arith

-- ---- "end": one range, and no record before it
pub end_offers : (s : List ℕ) (t : Terms) (out : List ℕ)
    → decided (within t.minimum t.maximum (length s)) (ltb 0 (digest_room out)) 0 out (record_of (length s) t.protein (site 0 (length s)) 1)
    ≡ offers s t (among s (site 0 (length s) ∷ [])) (site 0 (length s) ∷ []) 0 out
unfolding offered
end_offers s t out =
    let z : length s - 0 ≡ length s = omega arith in
    let one : among s (site 0 (length s) ∷ []) (site 0 (length s)) ≡ 1 = rw (same_refl (part s (site 0 (length s)))) in
    sym (offers-one s t (among s (site 0 (length s) ∷ [])) (site 0 (length s)) 0 out ∙ rw (one, z, and-true (within t.minimum t.maximum (length s))))
