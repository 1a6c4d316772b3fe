-- Offers write the ranges that are kept, one after the other. Assumes nothing.
use Rattle.std.specs.Prelude.{ℕ, ◌+◌, ◌*◌, ◌/◌, ◌≤◌, ◌<◌, ◌≡◌, Bool, cond, length, Some, None}
use Rattle.std.proofs.Math.Path.{refl}
use Rattle.std.proofs.Common.{sym, ap, ◌∙◌, arith, add-one}
use Rattle.std.proofs.Math.Bool.{true, false}
use mathlib.Core.List.{List, [], ◌∷◌, ◌++◌, foldl, append-nil, append_assoc}
use Rattle.std.proofs.Math.Nat.{min-le_left}
use Rattle.std.proofs.Math.Seq.{sets}
use Rattle.std.proofs.Math.Dec.{ltb}
use borrow.Author.Tests.{ltb-true}
use Rattle.enzyme_cuts.specs.Cutting.{Range, wanted, kept}
use Rattle.enzyme_cuts.specs.Work.{RangesWithin}
use Rattle.enzyme_keep.specs.declared.offering.Terms.{Terms}
use Rattle.enzyme_keep.specs.Digests.{record_of}
use Rattle.enzyme_keep.specs.Buffer.{ranges_in}
use Rattle.enzyme_keep.specs.BufferLaws.{ranges_more}
use Rattle.enzyme_keep.specs.Steps.{Step, digest_room, after, decided, offered, unless_full, offers, puts}

-- ---- two lists of ranges, one after the other

module _ (n p : ℕ) (f : Range → ℕ) where
  pub puts_append : (xs ys : List Range) (count : ℕ) (out : List ℕ) → puts n p f (xs ++ ys) count out ≡ unless_full (puts n p f xs count out) (puts n p f ys)
  puts_append [] ys count out = refl
  puts_append (r ∷ xs) ys count out =
      let a = decided true (ltb count (digest_room out)) count out (record_of n p r (f r)) in
      go a.step a.bytes (puts_append xs ys)
    where
      go : (x : Step) (o : List ℕ) → ((count : ℕ) (out : List ℕ) → puts n p f (xs ++ ys) count out ≡ unless_full (puts n p f xs count out) (puts n p f ys))
          → unless_full (after x o) (puts n p f (xs ++ ys)) ≡ unless_full (unless_full (after x o) (puts n p f xs)) (puts n p f ys)
      go (Some k) o ih = ih k o
      go None o ih = refl

  -- a range that may be new, and the rest
  pub puts_one : (w : Bool) (r : Range) (rest : List Range) (count : ℕ) (out : List ℕ)
      → puts n p f (cond w (r ∷ rest) rest) count out ≡ unless_full (decided w (ltb count (digest_room out)) count out (record_of n p r (f r))) (puts n p f rest)
  puts_one true r rest count out = refl
  puts_one false r rest count out = refl

-- ---- what offers write

-- of the ranges rs those that are kept behind ks
abbrev newly : List ℕ → ℕ → ℕ → List Range → List Range → List Range
newly s mn mx ks [] = []
newly s mn mx ks (r ∷ rs) =
    let with = newly s mn mx (ks ++ (r ∷ [])) rs in
    let without = newly s mn mx ks rs in
    cond (wanted s mn mx ks r) (r ∷ with) without

keeps : (s : List ℕ) (mn mx : ℕ) (ks rs : List Range) → foldl (kept s mn mx) ks rs ≡ ks ++ newly s mn mx ks rs
keeps s mn mx ks [] = sym (append-nil ks)
keeps s mn mx ks (r ∷ rs) = go (wanted s mn mx ks r) (keeps s mn mx (ks ++ (r ∷ [])) rs) (keeps s mn mx ks rs)
  where
    go : (w : Bool) → foldl (kept s mn mx) (ks ++ (r ∷ [])) rs ≡ (ks ++ (r ∷ [])) ++ newly s mn mx (ks ++ (r ∷ [])) rs → foldl (kept s mn mx) ks rs ≡ ks ++ newly s mn mx ks rs
        → foldl (kept s mn mx) (cond w (ks ++ (r ∷ [])) ks) rs ≡ ks ++ cond w (r ∷ newly s mn mx (ks ++ (r ∷ [])) rs) (newly s mn mx ks rs)
    go true e f = e ∙ append_assoc ks (r ∷ []) (newly s mn mx (ks ++ (r ∷ [])) rs)
    go false e f = f

module _ (s : List ℕ) (t : Terms) (f : Range → ℕ) (small : length s ≤ 65536) where
  offers-kept : (rs : List Range) → RangesWithin (length s) rs → (count : ℕ) (out : List ℕ)
      → offers s t f rs count out ≡ puts (length s) t.protein f (newly s t.minimum t.maximum (ranges_in count out) rs) count out
  unfolding offered
  offers-kept [] i count out = refl
  offers-kept (r ∷ rs) i count out = go (wanted s t.minimum t.maximum (ranges_in count out) r) (ltb count (digest_room out)) refl (offers-kept rs i.2)
    where
      go : (w b : Bool) → ltb count (digest_room out) ≡ b
          → ((count : ℕ) (out : List ℕ) → offers s t f rs count out ≡ puts (length s) t.protein f (newly s t.minimum t.maximum (ranges_in count out) rs) count out)
          → unless_full (decided w b count out (record_of (length s) t.protein r (f r))) (offers s t f rs)
          ≡ puts (length s) t.protein f (cond w (r ∷ newly s t.minimum t.maximum (ranges_in count out ++ (r ∷ [])) rs) (newly s t.minimum t.maximum (ranges_in count out) rs)) count out
      go true true g ih =
          let l : count < digest_room out = ltb-true _ _ g in
          let m = min-le_left (length out / 20) 1048576 in
          let new = sets out (20 * count) (record_of (length s) t.protein r (f r)) in
          let x : ranges_in (count + 1) (sets out (20 * count) (record_of (length s) t.protein r (f r))) ≡ ranges_in count out ++ (r ∷ []) = rw (add-one count) (ranges_more (length s) t.protein r (f r) count out (omega arith) small i.0 i.1) in
          rw g (rw x at (ih (count + 1) new))
      go true false g ih = rw g
      go false b g ih = ih count out

  pub offers-puts : (rs : List Range) → RangesWithin (length s) rs → (out : List ℕ)
      → offers s t f rs 0 out ≡ puts (length s) t.protein f (foldl (kept s t.minimum t.maximum) [] rs) 0 out
  offers-puts rs i out = rw (keeps s t.minimum t.maximum [] rs) (offers-kept rs i 0 out)

  -- two lists of which the same is kept
  pub kept-offers : (xs ys : List Range) → RangesWithin (length s) xs → RangesWithin (length s) ys
      → foldl (kept s t.minimum t.maximum) [] xs ≡ foldl (kept s t.minimum t.maximum) [] ys → (out : List ℕ) → offers s t f xs 0 out ≡ offers s t f ys 0 out
  kept-offers xs ys i j e out = offers-puts xs i out ∙ ap (λ (rs : List Range). puts (length s) t.protein f rs 0 out) e ∙ sym (offers-puts ys j out)
