-- Ranges whose letters were all looked at before may be left out. Assumes nothing.
use Rattle.std.specs.Prelude.{ℕ, ◌≡◌, refl, Bool, true, false, ◌||◌, List, [], ◌∷◌, ◌++◌, map, length}
use Rattle.std.proofs.Common.{sym, true≢false}
use Rattle.lists.specs.Lists.{same, All}
use Rattle.lists.specs.KeepLaws.{all_map}
use Rattle.lists.specs.SameLaws.{same_refl, same-eq}
use Rattle.enzyme_cuts.specs.Cutting.{Range, part, seen_in}
use Rattle.enzyme_cuts.specs.Work.{RangesWithin}
use Rattle.enzyme_windows.specs.LookedLaws.{looked, kept_after}
use Rattle.enzyme_windows.specs.EmptyLaws.{looked_old, leave_stale}

module _ (s : List ℕ) where
  -- a range with these letters was looked at, for each of the texts
  abbrev pub AllSeen : List Range → List (List ℕ) → Type 0
  AllSeen ls ts = All (λ t. seen_in s ls t ≡ true) ts

  -- what was told stays told
  pub told_old : (ls rs : List Range) (ts : List (List ℕ)) → AllSeen ls ts → AllSeen (looked ls rs) ts
  told_old ls rs ts h = all_map (looked_old s ls rs) ts h

  pub told-new : (ls rs : List Range) → AllSeen (looked ls rs) (map (part s) rs)
  told-new ls [] = tt
  told-new ls (r ∷ rs) = (looked_old s (r ∷ ls) rs (part s r) (rw (same_refl (part s r))), told-new (r ∷ ls) rs)

  told-seen : (ls ys : List Range) (t : List ℕ) → AllSeen ls (map (part s) ys) → seen_in s ys t ≡ true → seen_in s ls t ≡ true
  told-seen ls [] t h e = absurd (true≢false (sym e))
  told-seen ls (y ∷ ys) t h e = go (same (part s y) t) refl e (told-seen ls ys t h.1)
    where
      go : (b : Bool) → same (part s y) t ≡ b → (b || seen_in s ys t) ≡ true → (seen_in s ys t ≡ true → seen_in s ls t ≡ true) → seen_in s ls t ≡ true
      go true f g ih = rw (same-eq (part s y) t f) at h.0
      go false f g ih = ih g

  pub leave_out : (mn mx : ℕ) (ls ys zs : List Range) → RangesWithin (length s) (ys ++ zs) → AllSeen ls (map (part s) ys) → kept_after s mn mx ls (ys ++ zs) ≡ kept_after s mn mx ls zs
  leave_out mn mx ls ys zs i h = leave_stale s mn mx ls ys zs i (λ t w e. told-seen ls ys t h e)
