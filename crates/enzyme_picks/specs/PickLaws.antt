-- The windows of the tables with a weight are those that are kept, and the weight is how many have their letters. Assumes nothing.
use Rattle.std.specs.Prelude.{ℕ, zero, suc, ◌+◌, ◌-◌, ◌≤◌, ◌<◌, ◌≡◌, refl, Bool, true, false, cond, ◌&&◌, ◌⊎◌, length, take, drop, get_or, ltb, leb, Some, None}
use Rattle.std.proofs.Common.{sym, ap, ◌∙◌, inl, inr, arith, add-one, lt-ltb, le-ltb, le-leb, length-append, take-append-drop, take-add}
use mathlib.Core.List.{List, [], ◌++◌, foldl, append-nil}
use Rattle.std.proofs.lemmas.Bool.{lt-leb}
use Rattle.lists.specs.Tests.{below?}
use Rattle.enzyme_cuts.specs.declared.kinds.Knife.{Knife}
use Rattle.enzyme_cuts.specs.Cutting.{Range, range, windows, windows_from, within, kept}
use Rattle.enzyme_cuts.specs.Work.{RangesWithin}
use Rattle.enzyme_keep.specs.declared.offering.Terms.{Terms}
use Rattle.enzyme_keep.specs.Digests.{record_of}
use Rattle.enzyme_keep.specs.Steps.{Step, digest_room, After, after, decided, unless_full, offers, among, puts}
use Rattle.enzyme_windows.specs.Pieces.{pieces, end_to_end, places_from}
use Rattle.enzyme_windows.specs.Shared.{shared_sites, unshared, picked_from}
use Rattle.enzyme_windows.specs.Weights.{same_count, class_weight}
use Rattle.enzyme_windows.specs.PieceLaws.{end_to_end_pieces}
use Rattle.enzyme_windows.specs.WindowLaws.{end_to_end_append, windows_inside}
use Rattle.enzyme_windows.specs.LookedLaws.{kept-firsts}
use Rattle.enzyme_windows.proofs.KeptLaws.{first-windows}
use Rattle.enzyme_windows.proofs.FilledLaws.{sites-pieces}
use Rattle.enzyme_windows.specs.StartLaws.{piece_start, unshared-on, unshared_end}
use Rattle.enzyme_windows.proofs.ClassLaws.{count-some}
use Rattle.enzyme_windows.proofs.HavingLaws.{window-text, sizes-having}
use Rattle.enzyme_once.specs.Once.{each_once}
use Rattle.enzyme_picks.specs.Picks.{StartsRise, new_at, windows_put, sizes_put}
use Rattle.enzyme_keep.specs.StepLaws.{unless_alike}
use Rattle.enzyme_keep.specs.PutLaws.{puts_append, puts_one, offers-puts}

-- ---- the loop over the windows of one size

-- the window from site i, with what was read of the tables
module _ (n p : ℕ) (starts : List ℕ) (w : ℕ → ℕ) (mn mx missed i m e : ℕ) (f : e ≡ i + suc missed) (h : e ≤ m) (a b : ℕ) (fits : Bool) (times : ℕ) (ea : a ≡ get_or starts i 0) (eb : b ≡ get_or starts e 0)
    (ef : fits ≡ within mn mx (b - a)) (et : times ≡ cond fits (w i) 0) (count : ℕ) (out o : List ℕ) where
  this : decided (new_at starts w mn mx missed i) (ltb count (digest_room out)) count out (record_of n p (range (get_or starts i 0) (get_or starts (i + suc missed) 0) missed 0) (w i))
      ≡ decided (ltb 0 times) (ltb count (digest_room out)) count out (record_of n p (range a b missed 0) times)
  this = rw (et, ef, ea, eb, f) (go (within mn mx (get_or starts (i + suc missed) 0 - get_or starts i 0)))
    where
      go : (x : Bool) → decided (x && ltb 0 (w i)) (ltb count (digest_room out)) count out (record_of n p (range (get_or starts i 0) (get_or starts (i + suc missed) 0) missed 0) (w i))
          ≡ decided (ltb 0 (cond x (w i) 0)) (ltb count (digest_room out)) count out (record_of n p (range (get_or starts i 0) (get_or starts (i + suc missed) 0) missed 0) (cond x (w i) 0))
      go true = refl
      go false = refl

  first : windows_put n p starts w mn mx missed i (suc m - e) count out
      ≡ unless_full (decided (ltb 0 times) (ltb count (digest_room out)) count out (record_of n p (range a b missed 0) times)) (windows_put n p starts w mn mx missed (i + 1) (suc m - (e + 1)))
  first =
      let g : suc m - e ≡ suc (suc m - (e + 1)) = omega arith in
      rw (g, this, add-one i)

  pub turn-kept : {whole : After} → windows_put n p starts w mn mx missed i (suc m - e) count out ≡ whole → (k : ℕ)
      → after (Some k) o ≡ decided (ltb 0 times) (ltb count (digest_room out)) count out (record_of n p (range a b missed 0) times)
      → windows_put n p starts w mn mx missed (i + 1) (suc m - (e + 1)) k o ≡ whole
  turn-kept inv k y = sym (first ∙ rw (← y)) ∙ inv

  pub turn_full : {whole : After} → windows_put n p starts w mn mx missed i (suc m - e) count out ≡ whole
      → after None o ≡ decided (ltb 0 times) (ltb count (digest_room out)) count out (record_of n p (range a b missed 0) times) → after None o ≡ whole
  turn_full inv y = sym (first ∙ rw (← y)) ∙ inv

pub put-start : (n p : ℕ) (starts : List ℕ) (w : ℕ → ℕ) (mn mx missed m e count : ℕ) (out : List ℕ) → e ≡ missed + 1
    → windows_put n p starts w mn mx missed 0 (suc m - e) count out ≡ windows_put n p starts w mn mx missed 0 (m - missed) count out
put-start n p starts w mn mx missed m e count out f = let g : suc m - e ≡ m - missed = omega arith in rw g

pub put_end : (n p : ℕ) (starts : List ℕ) (w : ℕ → ℕ) (mn mx missed i m e count : ℕ) (out : List ℕ) → m < e → windows_put n p starts w mn mx missed i (suc m - e) count out ≡ after (Some count) out
put_end n p starts w mn mx missed i m e count out h = let g : suc m - e ≡ 0 = omega arith in rw g

-- weights that agree write the same
pub put-alike : (n p : ℕ) (starts : List ℕ) (v w : ℕ → ℕ) (mn mx missed left i : ℕ) → ((j : ℕ) → j < i + left → v j ≡ w j) → (count : ℕ) (out : List ℕ)
    → windows_put n p starts v mn mx missed i left count out ≡ windows_put n p starts w mn mx missed i left count out
put-alike n p starts v w mn mx missed zero i h count out = refl
put-alike n p starts v w mn mx missed (suc left) i h count out =
    rw (h i (omega arith)) (unless_alike (decided (new_at starts w mn mx missed i) (ltb count (digest_room out)) count out (record_of n p (range (get_or starts i 0) (get_or starts (i + suc missed) 0) missed 0) (w i)))
    (windows_put n p starts v mn mx missed (suc i) left) (windows_put n p starts w mn mx missed (suc i) left) (put-alike n p starts v w mn mx missed left (suc i) (λ j l. h j (omega arith))))

-- ---- the loop over the sizes

module _ (n p : ℕ) (starts : List ℕ) (w : ℕ → ℕ → ℕ) (mn mx m missed top count : ℕ) (out : List ℕ) where
  sizes-on : missed ≤ top → sizes_put n p starts w mn mx m missed (suc top - missed) count out
      ≡ unless_full (windows_put n p starts (w missed) mn mx missed 0 (m - missed) count out) (sizes_put n p starts w mn mx m (missed + 1) (suc top - (missed + 1)))
  sizes-on h = let g : suc top - missed ≡ suc (suc top - (missed + 1)) = omega arith in rw (g, add-one missed)

  pub sizes-kept : {whole : After} → sizes_put n p starts w mn mx m missed (suc top - missed) count out ≡ whole → missed ≤ top → (o : List ℕ) (k : ℕ)
      → after (Some k) o ≡ windows_put n p starts (w missed) mn mx missed 0 (m - missed) count out → sizes_put n p starts w mn mx m (missed + 1) (suc top - (missed + 1)) k o ≡ whole
  sizes-kept inv h o k e = sym (sizes-on h ∙ rw (← e)) ∙ inv

  pub sizes_full : {whole : After} → sizes_put n p starts w mn mx m missed (suc top - missed) count out ≡ whole → missed ≤ top → (o : List ℕ)
      → after None o ≡ windows_put n p starts (w missed) mn mx missed 0 (m - missed) count out → after None o ≡ whole
  sizes_full inv h o e = sym (sizes-on h ∙ rw (← e)) ∙ inv

  -- the last size
  pub sizes-last : {whole : After} → sizes_put n p starts w mn mx m missed (suc top - missed) count out ≡ whole → missed ≡ top → (r : Step) (o : List ℕ)
      → after r o ≡ windows_put n p starts (w missed) mn mx missed 0 (m - missed) count out → after r o ≡ whole
  sizes-last inv h r o e =
      sym (sizes-on (omega arith) ∙ rw (← e) (go r)) ∙ inv
    where
      go : (r : Step) → unless_full (after r o) (sizes_put n p starts w mn mx m (missed + 1) (suc top - (missed + 1))) ≡ after r o
      go (Some k) = let z : suc top - (missed + 1) ≡ 0 = omega arith in rw z
      go None = refl

-- ---- starts rise

start_rises : (ts : List (List ℕ)) (i j : ℕ) → i ≤ j → piece_start ts i ≤ piece_start ts j
start_rises ts i j h =
    let e : i + (j - i) ≡ j = omega arith in
    let a : end_to_end (take j ts) ≡ end_to_end (take i ts) ++ end_to_end (take (j - i) (drop i ts)) = ap (λ (n : ℕ). end_to_end (take n ts)) (sym e) ∙ ap end_to_end (take-add i (j - i) ts) ∙ end_to_end_append (take i ts) (take (j - i) (drop i ts)) in
    omega (arith, ap length a ∙ length-append (end_to_end (take i ts)) (end_to_end (take (j - i) (drop i ts))))

start_low : (k : Knife) (s : List ℕ) (i : ℕ) → piece_start (pieces k s) i ≤ length s
start_low k s i =
    let P = pieces k s in
    let a : s ≡ end_to_end (take i P) ++ end_to_end (drop i P) = sym (end_to_end_pieces k s) ∙ ap end_to_end (sym (take-append-drop i P)) ∙ end_to_end_append (take i P) (drop i P) in
    omega (arith, ap length a ∙ length-append (end_to_end (take i P)) (end_to_end (drop i P)))

pub starts_rise : (k : Knife) (s starts : List ℕ) (m : ℕ) → length s ≤ 65536 → m < length starts → ((i : ℕ) → i ≤ m → get_or starts i 0 ≡ piece_start (pieces k s) i) → StartsRise starts m
starts_rise k s starts m small some at = record {
  some = some;
  order = λ i j h l. rw (at i (omega arith), at j l) (start_rises (pieces k s) i j h);
  low = λ i h. let x = start_low k s i in rw (at i h) (omega arith);
}

-- ---- the windows with a weight are those that no earlier site shares

module _ (ts : List (List ℕ)) (starts : List ℕ) (at : (i : ℕ) → i ≤ length ts → get_or starts i 0 ≡ piece_start ts i) (n p mn mx top : ℕ) (f : Range → ℕ)
    (told : (x i : ℕ) → x ≤ top → i + suc x ≤ length ts → f (range (piece_start ts i) (piece_start ts (i + suc x)) x 0) ≡ same_count ts (suc x) i)
  where
    -- one window
    one-put : (x i : ℕ) → x ≤ top → i + suc x ≤ length ts → (y b : Bool) (count : ℕ) (out : List ℕ)
        → decided (y && ltb 0 (class_weight ts (suc x) i)) b count out (record_of n p (range (piece_start ts i) (piece_start ts (i + suc x)) x 0) (class_weight ts (suc x) i))
        ≡ decided (y && ltb (shared_sites ts i) (suc x)) b count out (record_of n p (range (piece_start ts i) (piece_start ts (i + suc x)) x 0) (f (range (piece_start ts i) (piece_start ts (i + suc x)) x 0)))
    one-put x i l h false b count out = refl
    one-put x i l h true b count out = go (below? (shared_sites ts i) (suc x))
      where
        go : (shared_sites ts i < suc x) ⊎ (suc x ≤ shared_sites ts i)
            → decided (ltb 0 (class_weight ts (suc x) i)) b count out (record_of n p (range (piece_start ts i) (piece_start ts (i + suc x)) x 0) (class_weight ts (suc x) i))
            ≡ decided (ltb (shared_sites ts i) (suc x)) b count out (record_of n p (range (piece_start ts i) (piece_start ts (i + suc x)) x 0) (f (range (piece_start ts i) (piece_start ts (i + suc x)) x 0)))
        go (inl u) =
            let v : leb (suc x) (shared_sites ts i) ≡ false = lt-leb (suc x) (shared_sites ts i) u in
            let w : ltb 0 (same_count ts (suc x) i) ≡ true = lt-ltb 0 (same_count ts (suc x) i) (count-some ts x i h) in
            rw (v, w, lt-ltb (shared_sites ts i) (suc x) u, told x i l h)
        go (inr u) =
            let v : leb (suc x) (shared_sites ts i) ≡ true = le-leb (suc x) (shared_sites ts i) u in
            rw (v, le-ltb (shared_sites ts i) (suc x) u)

    windows-puts : (x : ℕ) → x ≤ top → (left i : ℕ) → left ≡ length ts - x - i → (count : ℕ) (out : List ℕ)
        → windows_put n p starts (class_weight ts (suc x)) mn mx x i left count out ≡ puts n p f (unshared (shared_sites ts) mn mx (suc x) i (drop i (windows x (places_from 0 ts)))) count out
    windows-puts x l zero i e count out = rw (unshared_end ts (shared_sites ts) mn mx x i (omega arith))
    windows-puts x l (suc left) i e count out =
        let r = range (piece_start ts i) (piece_start ts (i + suc x)) x 0 in
        let y = within mn mx (piece_start ts (i + suc x) - piece_start ts i) in
        let rest = unshared (shared_sites ts) mn mx (suc x) (suc i) (drop (suc i) (windows x (places_from 0 ts))) in
        rw (at i (omega arith), at (i + suc x) (omega arith), unshared-on ts (shared_sites ts) mn mx x i (omega arith), one-put x i l (omega arith) y (ltb count (digest_room out)) count out)
        (unless_alike (decided (y && ltb (shared_sites ts i) (suc x)) (ltb count (digest_room out)) count out (record_of n p r (f r))) (windows_put n p starts (class_weight ts (suc x)) mn mx x (suc i) left) (puts n p f rest) (windows-puts x l left (suc i) (omega arith))
        ∙ sym (puts_one n p f (y && ltb (shared_sites ts i) (suc x)) r rest count out))

    sizes-puts : (z x : ℕ) → x + z ≤ suc top → (count : ℕ) (out : List ℕ)
        → sizes_put n p starts (λ (y i : ℕ). class_weight ts (suc y) i) mn mx (length ts) x z count out ≡ puts n p f (picked_from (shared_sites ts) mn mx x z (places_from 0 ts)) count out
    sizes-puts zero x l count out = refl
    sizes-puts (suc z) x l count out =
        let xs = unshared (shared_sites ts) mn mx (suc x) 0 (windows x (places_from 0 ts)) in
        let ys = picked_from (shared_sites ts) mn mx (suc x) z (places_from 0 ts) in
        rw (windows-puts x (omega arith) (length ts - x) 0 (omega arith) count out)
        (unless_alike (puts n p f xs count out) (sizes_put n p starts (λ (y i : ℕ). class_weight ts (suc y) i) mn mx (length ts) (suc x) z) (puts n p f ys) (sizes-puts z (suc x) (omega arith))
        ∙ sym (puts_append n p f xs ys count out))

-- ---- the whole

module _ (k : Knife) (s : List ℕ) (missed : ℕ) where
  once-windows : each_once k false missed s ≡ windows_from 0 (suc missed) (places_from 0 (pieces k s))
  once-windows = append-nil _ ∙ ap (windows_from 0 (suc missed)) (sites-pieces k s)

  -- how many of the ranges have the letters of a window
  pub window-having : (n i : ℕ) → n ≤ missed → i + suc n ≤ length (pieces k s)
      → among s (each_once k false missed s) (range (piece_start (pieces k s) i) (piece_start (pieces k s) (i + suc n)) n 0) ≡ same_count (pieces k s) (suc n) i
  window-having n i l h = rw (once-windows, window-text k s n i) (sizes-having k s n i h (suc missed) 0 (omega arith) (omega arith))

  pub sizes-offers : (starts : List ℕ) (m : ℕ) → length s ≤ 65536 → m ≡ length (pieces k s) → ((i : ℕ) → i ≤ m → get_or starts i 0 ≡ piece_start (pieces k s) i) → (t : Terms) (out : List ℕ)
      → sizes_put (length s) t.protein starts (λ (y i : ℕ). class_weight (pieces k s) (suc y) i) t.minimum t.maximum m 0 (suc missed) 0 out
      ≡ offers s t (among s (each_once k false missed s)) (each_once k false missed s) 0 out
  sizes-offers starts m small sites at t out =
      let P = pieces k s in
      let f = among s (each_once k false missed s) in
      let R = windows_from 0 (suc missed) (places_from 0 P) in
      let j : RangesWithin (length s) (windows_from 0 (suc missed) (places_from 0 (pieces k s))) = windows_inside (length s) (suc missed) 0 0 P (rw (end_to_end_pieces k s) (omega arith)) in
      let a : foldl (kept s t.minimum t.maximum) [] (windows_from 0 (suc missed) (places_from 0 (pieces k s))) ≡ picked_from (shared_sites (pieces k s)) t.minimum t.maximum 0 (suc missed) (places_from 0 (pieces k s)) = kept-firsts s t.minimum t.maximum R j ∙ first-windows k s t.minimum t.maximum (suc missed) in
      ap (λ (n : ℕ). sizes_put (length s) t.protein starts (λ (y i : ℕ). class_weight (pieces k s) (suc y) i) t.minimum t.maximum n 0 (suc missed) 0 out) sites
      ∙ sizes-puts P starts (λ i h. at i (omega arith)) (length s) t.protein t.minimum t.maximum missed f (λ x i l h. window-having x i l h) (suc missed) 0 (omega arith) 0 out
      ∙ ap (λ (rs : List Range). puts (length s) t.protein f rs 0 out) (sym a)
      ∙ sym (offers-puts s t f small R j out)
      ∙ ap (λ (rs : List Range). offers s t f rs 0 out) (sym once-windows)
