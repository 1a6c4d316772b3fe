-- Candidates that can never be kept may be left out: the empty ones, and those whose letters were looked at before.
-- Assumes nothing.
use Rattle.std.specs.Prelude.{ℕ, zero, suc, ◌-◌, ◌≡◌, refl, Bool, true, false, cond, ◌||◌, length}
use Rattle.std.proofs.Common.{ap, sym, ◌∙◌, arith}
use Rattle.std.proofs.Math.Bool.{or-true, and-false}
use mathlib.Core.List.{List, [], ◌∷◌, ◌++◌, foldl, append-nil, append_assoc, foldl-append}
use Rattle.std.proofs.Math.Seq.{drop-nil}
use Rattle.lists.specs.Tests.{and_not_or}
use Rattle.lists.specs.Lists.{same}
use Rattle.lists.specs.SameLaws.{same_refl}
use Rattle.enzyme_cuts.specs.declared.kinds.Kind.{Kind}
use Rattle.enzyme_cuts.specs.declared.kinds.Kind.TheVariants.{None, End, Set}
use Rattle.enzyme_cuts.specs.declared.kinds.Enzyme.{Enzyme}
use Rattle.enzyme_cuts.specs.declared.kinds.Knife.{Knife}
use Rattle.enzyme_cuts.specs.Cutting.{Range, range, site, span, knife, meant, cuts_at, cut_of, set_sites, end_sites, windows, windows_from, with_windows, halves, semi_of, semis, with_semis, sites_of, part, seen_in, within, wanted, digests, kept}
use Rattle.enzyme_cuts.specs.Work.{inner_halves, parts_of, all_parts, set_windows, set_work, work_of, work}

pub seen_in_append : (s : List ℕ) (ks qs : List Range) (new : List ℕ) → seen_in s (ks ++ qs) new ≡ (seen_in s ks new || seen_in s qs new)
seen_in_append s [] qs new = refl
seen_in_append s (k ∷ ks) qs new = go (same (part s k) new) (seen_in_append s ks qs new)
  where
    go : (b : Bool) → seen_in s (ks ++ qs) new ≡ (seen_in s ks new || seen_in s qs new) → (b || seen_in s (ks ++ qs) new) ≡ (b || seen_in s ks new || seen_in s qs new)
    go true ih = refl
    go false ih = ih

module _ (s : List ℕ) (mn mx : ℕ) where
  -- none of the ranges would be kept after ks
  abbrev Settled : List Range → List Range → Type 0
  Settled ks [] = Unit {0}
  Settled ks (r ∷ rs) = (wanted s mn mx ks r ≡ false) × Settled ks rs

  -- an empty range
  empty_settled : (ks : List Range) (a m x : ℕ) → wanted s mn mx ks (range a a m x) ≡ false
  empty_settled ks a m x = let z : a - a ≡ 0 = omega arith in rw z

  -- a range that was looked at
  settled_after : (ks : List Range) (r : Range) → wanted s mn mx (kept s mn mx ks r) r ≡ false
  settled_after ks r = go (wanted s mn mx ks r) refl
    where
      go : (w : Bool) → wanted s mn mx ks r ≡ w → wanted s mn mx (cond w (ks ++ (r ∷ [])) ks) r ≡ false
      go true e = rw (seen_in_append s ks (r ∷ []) (part s r), same_refl (part s r), or-true (seen_in s ks (part s r))) (and-false (within mn mx (r.to - r.from)))
      go false e = e

  settled_keep : (ks : List Range) (q r : Range) → wanted s mn mx ks r ≡ false → wanted s mn mx (kept s mn mx ks q) r ≡ false
  settled_keep ks q r e = go (wanted s mn mx ks q)
    where
      go : (w : Bool) → wanted s mn mx (cond w (ks ++ (q ∷ [])) ks) r ≡ false
      go true = rw (seen_in_append s ks (q ∷ []) (part s r)) (and_not_or (within mn mx (r.to - r.from)) (seen_in s ks (part s r)) (seen_in s (q ∷ []) (part s r)) e)
      go false = e

  settled_fold : (ks qs : List Range) (r : Range) → wanted s mn mx ks r ≡ false → wanted s mn mx (foldl (kept s mn mx) ks qs) r ≡ false
  settled_fold ks [] r e = e
  settled_fold ks (q ∷ qs) r e = settled_fold (kept s mn mx ks q) qs r (settled_keep ks q r e)

  settled_more : (ks qs rs : List Range) → Settled ks rs → Settled (foldl (kept s mn mx) ks qs) rs
  settled_more ks qs [] h = tt
  settled_more ks qs (r ∷ rs) h = (settled_fold ks qs r h.0, settled_more ks qs rs h.1)

  -- all that were looked at
  settled_self : (ks xs : List Range) → Settled (foldl (kept s mn mx) ks xs) xs
  settled_self ks [] = tt
  settled_self ks (x ∷ xs) = (settled_fold (kept s mn mx ks x) xs x (settled_after ks x), settled_self (kept s mn mx ks x) xs)

  keep_settled : (ks : List Range) (r : Range) → wanted s mn mx ks r ≡ false → kept s mn mx ks r ≡ ks
  keep_settled ks r e = rw e

  fold_settled : (ks rs : List Range) → Settled ks rs → foldl (kept s mn mx) ks rs ≡ ks
  fold_settled ks [] h = refl
  fold_settled ks (r ∷ rs) h = ap (λ (qs : List Range). foldl (kept s mn mx) qs rs) (keep_settled ks r h.0) ∙ fold_settled ks rs h.1

  -- a list of candidates a second time
  pub twice : (ks xs ys : List Range) → foldl (kept s mn mx) ks (xs ++ (xs ++ ys)) ≡ foldl (kept s mn mx) ks (xs ++ ys)
  twice ks xs ys =
      foldl-append (kept s mn mx) ks xs (xs ++ ys)
      ∙ foldl-append (kept s mn mx) (foldl (kept s mn mx) ks xs) xs ys
      ∙ ap (λ (qs : List Range). foldl (kept s mn mx) qs ys) (fold_settled (foldl (kept s mn mx) ks xs) xs (settled_self ks xs))
      ∙ sym (foldl-append (kept s mn mx) ks xs ys)

  -- the cut at the start of a site that was looked at
  semi_inner : (ks : List Range) (r : Range) → wanted s mn mx ks r ≡ false → foldl (kept s mn mx) ks (semi_of r) ≡ foldl (kept s mn mx) ks (inner_halves r)
  semi_inner ks r e = go (r.to - r.from) refl
    where
      go : (n : ℕ) → r.to - r.from ≡ n → foldl (kept s mn mx) ks (halves r r.from n) ≡ foldl (kept s mn mx) ks (inner_halves r)
      go zero h = let z : r.to - suc r.from ≡ 0 = omega arith in rw z
      go (suc n) h =
          let z : r.to - suc r.from ≡ n = omega arith in
          let a : kept s mn mx ks (range r.from r.from r.missed 1) ≡ ks = keep_settled ks (range r.from r.from r.missed 1) (empty_settled ks r.from r.missed 1) in
          let b : kept s mn mx ks (range r.from r.to r.missed 1) ≡ ks = keep_settled ks (range r.from r.to r.missed 1) e in
          let f : List Range → List Range = λ (qs : List Range). foldl (kept s mn mx) qs (halves r (suc r.from) n) in
          ap (λ (qs : List Range). f (kept s mn mx qs (range r.from r.to r.missed 1))) a ∙ ap f b ∙ rw z

  semis_inner : (ks rs : List Range) → Settled ks rs → foldl (kept s mn mx) ks (semis rs) ≡ foldl (kept s mn mx) ks (all_parts true rs)
  semis_inner ks [] h = refl
  semis_inner ks (r ∷ rs) h =
      foldl-append (kept s mn mx) ks (semi_of r) (semis rs)
      ∙ ap (λ (qs : List Range). foldl (kept s mn mx) qs (semis rs)) (semi_inner ks r h.0)
      ∙ semis_inner (foldl (kept s mn mx) ks (inner_halves r)) rs (settled_more ks (inner_halves r) rs h.1)
      ∙ sym (foldl-append (kept s mn mx) ks (inner_halves r) (all_parts true rs))

pub all_parts_append : (b : Bool) (xs ys : List Range) → all_parts b (xs ++ ys) ≡ all_parts b xs ++ all_parts b ys
all_parts_append b [] ys = refl
all_parts_append b (x ∷ xs) ys = ap (λ (qs : List Range). parts_of b x ++ qs) (all_parts_append b xs ys) ∙ sym (append_assoc (parts_of b x) (all_parts b xs) (all_parts b ys))

pub all_parts_plain : (rs : List Range) → all_parts false rs ≡ rs
all_parts_plain [] = refl
all_parts_plain (r ∷ rs) = ap (λ (qs : List Range). r ∷ qs) (all_parts_plain rs)

-- the windows of one site are the sites
pub windows-zero : (k : Knife) (left i : ℕ) (bs : List ℕ) → windows 0 (set_sites k left i bs) ≡ set_sites k left i bs
windows-zero k left i [] = refl
windows-zero k left i (b ∷ bs) = go (cuts_at k b bs) (λ lo. windows-zero k lo (suc i) bs)
  where
    cut : ℕ
    cut = cut_of k.side i

    go : (t : Bool) → ((lo : ℕ) → windows 0 (set_sites k lo (suc i) bs) ≡ set_sites k lo (suc i) bs)
        → windows 0 (cond t (site left cut ∷ set_sites k cut (suc i) bs) (set_sites k left (suc i) bs))
        ≡ cond t (site left cut ∷ set_sites k cut (suc i) bs) (set_sites k left (suc i) bs)
    go true ih = ap (λ (rs : List Range). site left cut ∷ rs) (ih cut)
    go false ih = ih left

-- of two sites there is one window of two, and none of more
no_more : (m n : ℕ) (r q : Range) → windows_from (suc (suc m)) n (r ∷ q ∷ []) ≡ []
no_more m zero r q = refl
no_more m (suc n) r q = rw (drop-nil {A = Range} m) (no_more (suc m) n r q)

pub end_windows : (m : ℕ) (r q : Range) → windows_from 0 (suc (suc m)) (r ∷ q ∷ []) ≡ span 0 r r ∷ span 0 q q ∷ span 1 r q ∷ []
end_windows m r q = rw (no_more 0 m r q)

module _ (s : List ℕ) (mn mx : ℕ) where
  -- the sites and the windows of one site: once is enough
  once : (b : Bool) (ks ss : List Range) → windows 0 ss ≡ ss → (missed : ℕ)
      → foldl (kept s mn mx) ks (all_parts b (with_windows missed ss)) ≡ foldl (kept s mn mx) ks (all_parts b (windows_from 0 (suc missed) ss))
  once b ks ss z zero = rw (z, append-nil ss)
  once b ks ss z (suc m) =
      let W = windows_from 1 (suc m) ss in
      ap (λ (qs : List Range). foldl (kept s mn mx) ks (all_parts b (ss ++ (qs ++ W)))) z
      ∙ ap (foldl (kept s mn mx) ks) (all_parts_append b ss (ss ++ W) ∙ ap (λ (qs : List Range). all_parts b ss ++ qs) (all_parts_append b ss W))
      ∙ twice s mn mx ks (all_parts b ss) (all_parts b W)
      ∙ ap (foldl (kept s mn mx) ks) (sym (all_parts_append b ss W))
      ∙ ap (λ (qs : List Range). foldl (kept s mn mx) ks (all_parts b (qs ++ W))) (sym z)

  set-work : (k : Knife) (semi : Bool) (missed : ℕ)
      → foldl (kept s mn mx) [] (set_work k semi missed s) ≡ foldl (kept s mn mx) [] (with_semis semi (with_windows missed (set_sites k 0 0 s)))
  set-work k semi missed = go semi (set_windows k missed s) (with_windows missed (set_sites k 0 0 s))
      (λ b ks. once b ks (set_sites k 0 0 s) (windows-zero k 0 0 s) missed)
    where
      go : (semi : Bool) (all base : List Range) → ((b : Bool) (ks : List Range) → foldl (kept s mn mx) ks (all_parts b base) ≡ foldl (kept s mn mx) ks (all_parts b all))
          → foldl (kept s mn mx) [] (all_parts false all ++ cond semi (all_parts true all) []) ≡ foldl (kept s mn mx) [] (base ++ cond semi (semis base) [])
      go true all base h =
          let plain : foldl (kept s mn mx) [] (all_parts false all) ≡ foldl (kept s mn mx) [] base = sym (h false []) ∙ ap (foldl (kept s mn mx) []) (all_parts_plain base) in
          let K = foldl (kept s mn mx) [] base in
          foldl-append (kept s mn mx) [] (all_parts false all) (all_parts true all)
          ∙ ap (λ (qs : List Range). foldl (kept s mn mx) qs (all_parts true all)) plain
          ∙ sym (h true K)
          ∙ sym (semis_inner s mn mx K base (settled_self s mn mx [] base))
          ∙ sym (foldl-append (kept s mn mx) [] base (semis base))
      go false all base h =
          let plain : foldl (kept s mn mx) [] (all_parts false all) ≡ foldl (kept s mn mx) [] base = sym (h false []) ∙ ap (foldl (kept s mn mx) []) (all_parts_plain base) in
          ap (foldl (kept s mn mx) []) (append-nil (all_parts false all)) ∙ plain ∙ ap (foldl (kept s mn mx) []) (sym (append-nil base))

  -- "end": the whole protein alone
  end_work : (n missed : ℕ) → foldl (kept s mn mx) [] (site 0 n ∷ []) ≡ foldl (kept s mn mx) [] (with_windows missed (end_sites n))
  end_work n missed =
      let K = kept s mn mx [] (site 0 n) in
      go missed (settled_after s mn mx [] (site 0 n)) (empty_settled s mn mx K n 0 0)
    where
      go : (missed : ℕ) → wanted s mn mx (kept s mn mx [] (site 0 n)) (site 0 n) ≡ false → wanted s mn mx (kept s mn mx [] (site 0 n)) (site n n) ≡ false
          → kept s mn mx [] (site 0 n) ≡ foldl (kept s mn mx) [] (with_windows missed (end_sites n))
      go zero a b = sym (fold_settled s mn mx (kept s mn mx [] (site 0 n)) (site n n ∷ []) (b, tt))
      go (suc m) a b =
          sym (fold_settled s mn mx (kept s mn mx [] (site 0 n)) (site n n ∷ windows_from 0 (suc (suc m)) (end_sites n))
          (b, (a, (b, (a, rw (no_more 0 m (site 0 n) (site n n)) tt)))))

  pub work_keeps : (e : Enzyme) (missed : ℕ) → foldl (kept s mn mx) [] (work e missed mn mx s) ≡ digests e missed mn mx s
  work_keeps e missed = go (meant e.kind)
    where
      go : (K : Kind) → foldl (kept s mn mx) [] (work_of K e missed mn mx s) ≡ foldl (kept s mn mx) [] (sites_of K e missed mn mx s)
      go None = refl
      go End = end_work (length s) missed
      go (Set cleave) = set-work (knife cleave e.skip e.side) e.semi missed
