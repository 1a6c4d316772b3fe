-- Without the parts of repeated windows the same ranges are kept. Assumes nothing.
use Rattle.std.specs.Prelude.{ℕ, zero, suc, ◌+◌, ◌-◌, ◌≤◌, ◌<◌, ◌≡◌, refl, Bool, true, false, cond, List, [], ◌++◌, map, length, take, drop, ltb}
use Rattle.std.proofs.Common.{sym, ap, ◌∙◌, ⊎_elim, append_assoc, arith, drop_of_length-le, drop-cons, ltb-true}
use Rattle.lists.specs.Tests.{below?}
use Rattle.enzyme_cuts.specs.Cutting.{Range, part, windows_from}
use Rattle.enzyme_cuts.specs.Work.{RangesWithin}
use Rattle.enzyme_windows.specs.Pieces.{end_to_end, places_from}
use Rattle.enzyme_windows.specs.LookedLaws.{looked, kept_after, kept-after_append}
use Rattle.enzyme_windows.specs.EmptyLaws.{inside_behind}
use Rattle.enzyme_windows.specs.StartLaws.{piece_start, start-next}
use Rattle.enzyme_once.specs.Once.{own, own_zip, owns, owns_from}
use Rattle.enzyme_once.specs.SpotLaws.{spots, drop-spots}
use Rattle.enzyme_fresh.specs.Fresh.{fresh_zip, fresh_from, Repeats}
use Rattle.enzyme_fresh.specs.LetterLaws.{site_of, part_letters, window_parts}
use Rattle.enzyme_fresh.specs.ToldLaws.{AllSeen, told_old, told-new, leave_out}

-- the pieces from the i-th on lie between their starts
pub placed-spots : (ts : List (List ℕ)) (i n : ℕ) → i + n ≡ length ts → places_from (piece_start ts i) (drop i ts) ≡ spots (piece_start ts) i n
placed-spots ts i zero h = rw (drop_of_length-le ts {i = i} (omega arith))
placed-spots ts i (suc n) h =
    let e = start-next ts i (omega arith) in
    rw (drop-cons ts i [] (omega arith), ← e, placed-spots ts (suc i) n (omega arith))

module _ (s : List ℕ) (mn mx : ℕ) (ts : List (List ℕ)) (whole : end_to_end ts ≡ s) (f : ℕ → ℕ) (rep : Repeats ts f) where
  -- one list is kept as the other, whatever was looked at before
  abbrev Same : List Range → List Range → Type 0
  Same xs ys = (ls : List Range) → kept_after s mn mx ls xs ≡ kept_after s mn mx ls ys

  module _ (m : ℕ) where
    -- the letters of the parts of window i
    abbrev texts : ℕ → List (List ℕ)
    texts i = part_letters m (take (suc m) (drop i ts))

    parts : (i j : ℕ) → j ≡ i + m → map (part s) (own m (site_of ts i) (site_of ts j)) ≡ texts i
    parts i j e = rw (e, ← whole) (window_parts ts m i)

    -- the parts of the windows before i were looked at
    abbrev Known : List Range → ℕ → Type 0
    Known ls i = (p : ℕ) → p < i → AllSeen s ls (texts p)

    known_on : (ls : List Range) (i : ℕ) → Known ls i → AllSeen s ls (texts i) → Known ls (suc i)
    known_on ls i k t p l = ⊎_elim (λ (g : p < i). k p g) (λ (g : i ≤ p). let e : p ≡ i = omega arith in rw e t) (below? p i)

    -- so were those of window i, if it repeats one
    known_again : (ls : List Range) (i : ℕ) → Known ls i → i < length ts → m < f i → AllSeen s ls (texts i)
    known_again ls i k l g = let x = rep i m l g in rw x.2.equal at (k x.0 x.1)

    module _ (xs ys : List Range) (same : Same xs ys) where
      zips : (i n j k : ℕ) (ls : List Range) → j ≡ i + m → i + n ≤ length ts → Known ls i
          → RangesWithin (length s) (own_zip m (spots (piece_start ts) i n) (spots (piece_start ts) j k) ++ xs)
          → kept_after s mn mx ls (own_zip m (spots (piece_start ts) i n) (spots (piece_start ts) j k) ++ xs) ≡ kept_after s mn mx ls (fresh_zip f m i (spots (piece_start ts) i n) (spots (piece_start ts) j k) ++ ys)
      zips i zero j k ls e l known a = same ls
      zips i (suc n) j zero ls e l known a = same ls
      zips i (suc n) j (suc k) ls e l known a = go (ltb m (f i)) refl
          (λ ls' g. zips (suc i) n (suc j) k ls' (omega arith) (omega arith) g (inside_behind (length s) O (Z ++ xs) b))
        where
          O : List Range
          O = own m (site_of ts i) (site_of ts j)

          Z : List Range
          Z = own_zip m (spots (piece_start ts) (suc i) n) (spots (piece_start ts) (suc j) k)

          F : List Range
          F = fresh_zip f m (suc i) (spots (piece_start ts) (suc i) n) (spots (piece_start ts) (suc j) k)

          b : RangesWithin (length s) (O ++ (Z ++ xs))
          b = rw (append_assoc O Z xs) at a

          go : (t : Bool) → ltb m (f i) ≡ t → ((ls' : List Range) → Known ls' (suc i) → kept_after s mn mx ls' (Z ++ xs) ≡ kept_after s mn mx ls' (F ++ ys))
              → kept_after s mn mx ls ((O ++ Z) ++ xs) ≡ kept_after s mn mx ls (cond t F (O ++ F) ++ ys)
          go true g ih =
              let t = known_again ls i known (omega arith) (ltb-true m (f i) g) in
              ap (kept_after s mn mx ls) (append_assoc O Z xs) ∙ leave_out s mn mx ls O (Z ++ xs) b (rw (parts i j e) t) ∙ ih ls (known_on ls i known t)
          go false g ih =
              let t : AllSeen s (looked ls O) (texts i) = rw (parts i j e) at (told-new s ls O) in
              ap (kept_after s mn mx ls) (append_assoc O Z xs)
              ∙ kept-after_append s mn mx ls O (Z ++ xs)
              ∙ ap (λ (rs : List Range). kept_after s mn mx ls O ++ rs) (ih (looked ls O) (known_on (looked ls O) i (λ p h. told_old s ls O (texts p) (known p h)) t))
              ∙ sym (kept-after_append s mn mx ls O (F ++ ys))
              ∙ ap (kept_after s mn mx ls) (sym (append_assoc O F ys))

  abbrev sites : List Range
  sites = spots (piece_start ts) 0 (length ts)

  sizes : (n m : ℕ) → RangesWithin (length s) (owns_from m n sites) → Same (owns_from m n sites) (fresh_from f m n sites)
  sizes zero m a ls = refl
  sizes (suc n) m a ls =
      let d = drop-spots (piece_start ts) m 0 (length ts) in
      let later = sizes n (suc m) (inside_behind (length s) (owns m sites) (owns_from (suc m) n sites) a) in
      rw d (zips m (owns_from (suc m) n sites) (fresh_from f (suc m) n sites) later 0 (length ts) (0 + m) (length ts - m) ls refl (omega arith) (λ p l. absurd (omega arith)) (rw d at a))

  -- with all windows in front
  pub fresh-same : (n : ℕ) → RangesWithin (length s) (windows_from 0 n sites ++ owns_from 0 n sites)
      → Same (windows_from 0 n sites ++ owns_from 0 n sites) (windows_from 0 n sites ++ fresh_from f 0 n sites)
  fresh-same n a ls =
      let W : List Range = windows_from 0 n sites in
      kept-after_append s mn mx ls W (owns_from 0 n sites)
      ∙ ap (λ (rs : List Range). kept_after s mn mx ls W ++ rs) (sizes n 0 (inside_behind (length s) W (owns_from 0 n sites) a) (looked ls W))
      ∙ sym (kept-after_append s mn mx ls W (fresh_from f 0 n sites))
