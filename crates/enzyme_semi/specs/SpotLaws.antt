-- The sites, by the table of starts. Assumes nothing.
use Rattle.std.specs.Prelude.{ℕ, suc, ◌+◌, ◌≤◌, ◌≡◌, refl, List, [], ◌∷◌, length, take, get_or}
use Rattle.std.proofs.Common.{ap, ◌∙◌, append-nil, arith, length-append}
use Rattle.enzyme_cuts.specs.declared.kinds.Knife.{Knife}
use Rattle.enzyme_cuts.specs.Cutting.{Range, site, set_sites}
use Rattle.enzyme_windows.specs.Pieces.{pieces, end_to_end, places_from}
use Rattle.enzyme_windows.specs.SiteLaws.{non_empty}
use Rattle.enzyme_windows.proofs.FilledLaws.{sites-pieces}
use Rattle.enzyme_windows.specs.StartLaws.{piece_start}
use Rattle.enzyme_once.specs.SpotLaws.{spots}
use Rattle.enzyme_sites.specs.Starts.{Starts}
use Rattle.enzyme_parts.specs.Walk.{site_start, sites_in}

placed-spots : (f : ℕ → ℕ) (i a : ℕ) (ts : List (List ℕ)) → ((j : ℕ) → j ≤ length ts → f (i + j) ≡ a + piece_start ts j) → places_from a ts ≡ spots f i (length ts)
placed-spots f i a [] h = refl
placed-spots f i a (t ∷ ts) h =
    let p : i + 0 ≡ i = omega arith in
    let q : i + 1 ≡ suc i = omega arith in
    let u : a + 0 ≡ a = omega arith in
    let x : f i ≡ a = rw (p, u) at (h 0 (omega arith)) in
    let y : f (suc i) ≡ a + length t = rw (q, append-nil t) at (h 1 (omega arith)) in
    rw (x, y) (ap (λ (rs : List Range). site a (a + length t) ∷ rs) (placed-spots f (suc i) (a + length t) ts (λ j l.
    let e : suc i + j ≡ i + suc j = omega arith in
    let z = length-append t (end_to_end (take j ts)) in
    ap f e ∙ h (suc j) (omega arith) ∙ omega arith)))

pub non_empty-spots : (k : Knife) (s x : List ℕ) (m : ℕ) → Starts k s x m → non_empty (set_sites k 0 0 s) ≡ sites_in x m
non_empty-spots k s x m g =
    let h : (j : ℕ) → j ≤ length (pieces k s) → site_start x (0 + j) ≡ 0 + piece_start (pieces k s) j = λ j l.
    let e : 0 + j ≡ j = omega arith in
    let n = g.count in
    let d : get_or x j 0 ≡ piece_start (pieces k s) j = g.at j (omega arith) in
    ap (site_start x) e ∙ omega arith in
    sites-pieces k s ∙ placed-spots (site_start x) 0 0 (pieces k s) h ∙ rw g.count
