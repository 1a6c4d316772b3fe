-- The base sites that are not empty are the pieces at their places. Assumes nothing.
use Rattle.std.specs.Prelude.{ℕ, ◌+◌, ◌≡◌, refl, Bool, true, false, List, [], ◌∷◌, ◌++◌, length, ltb}
use Rattle.std.proofs.Common.{ap, ◌∙◌, arith, lt-ltb, le-ltb}
use Rattle.enzyme_cuts.specs.declared.kinds.Knife.{Knife}
use Rattle.enzyme_cuts.specs.Cutting.{site, set_sites}
use Rattle.enzyme_windows.specs.Pieces.{pieces, places_from}
use Rattle.enzyme_windows.proofs.PlaceLaws.{empty_if, sites-placed}
use Rattle.enzyme_windows.specs.SiteLaws.{filled, non_empty, NoneEmpty, pieces-filled}

empty_out : (a : ℕ) → filled (site a a) ≡ false
empty_out a = le-ltb a a (omega arith)

filled-sites : (a : ℕ) (ts : List (List ℕ)) (y : Bool) → NoneEmpty ts → non_empty (places_from a (ts ++ empty_if y)) ≡ places_from a ts
filled-sites a [] true f = let e : a + 0 ≡ a = omega arith in rw (e, empty_out a)
filled-sites a [] false f = refl
filled-sites a (t ∷ ts) y f =
    let l = f.0 in
    let g : ltb a (a + length t) ≡ true = lt-ltb a (a + length t) (omega arith) in
    rw (g, filled-sites (a + length t) ts y f.1)

-- the sites that the code lists
pub sites-pieces : (k : Knife) (s : List ℕ) → non_empty (set_sites k 0 0 s) ≡ places_from 0 (pieces k s)
sites-pieces k s = let e = sites-placed k s in ap non_empty e.2 ∙ front e.0 (pieces k s ++ empty_if e.1) ∙ filled-sites 0 (pieces k s) e.1 (pieces-filled k s)
  where
    front : (x : Bool) (ts : List (List ℕ)) → non_empty (places_from 0 (empty_if x ++ ts)) ≡ non_empty (places_from 0 ts)
    front true ts = refl
    front false ts = refl
