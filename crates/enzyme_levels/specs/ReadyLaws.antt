-- What the steps of a level ask for is there. Assumes nothing.
use Rattle.std.specs.Prelude.{ℕ, ◌≤◌, ◌<◌, ◌≡◌, List, length, get_or}
use Rattle.std.proofs.Common.{arith}
use Rattle.enzyme_keys.specs.Keys.{SiteWithin}
use Rattle.enzyme_rows.specs.Steps.{AmongFirst, FirstDiffer, Sited, Arranged, RunStarts}
use Rattle.enzyme_runs.specs.RunLaws.{run-start}
use Rattle.enzyme_strewn.specs.Shuffled.{Shuffled}
use Rattle.enzyme_sifted.specs.Sifted.{Sifted}
use Rattle.enzyme_levels.specs.Levels.{SitesReady}

module _ (s starts y : List ℕ) (g m : ℕ) (rd : SitesReady s starts y g m) where
  pub ready_sited : Sited s starts y g
  ready_sited z v h l = rd.sites v (omega (arith, rd.inside z h))

  pub ready_arranged : (text : ℕ → List ℕ) (x : List ℕ) → Arranged text y x g → SitesReady s starts x g m
  ready_arranged text x ar = record { few = rd.few; small = rd.small; apart = ar.apart; inside = λ z h. rd.inside z (ar.from z h); sites = rd.sites }

-- ---- the sifted sites, strewn or not

pub sifted_strewn : (s starts y x : List ℕ) (m g : ℕ) → Sifted s starts y m g → Shuffled y x g → Sifted s starts x m g
sifted_strewn s starts y x m g sf sh = record {
  few = sf.few;
  apart = sh.apart sf.apart;
  inside = λ z h. sf.inside z (sh.from z h);
  each = λ z v h l d t. sh.into z (sf.each z v h l d t);
}

pub ready_sifted : (s starts y : List ℕ) (m g : ℕ) → m ≤ 65536 → ((z : ℕ) → z < m → SiteWithin s starts z) → Sifted s starts y m g → SitesReady s starts y g m
ready_sifted s starts y m g h sites sf = record { few = sf.few; small = h; apart = sf.apart; inside = sf.inside; sites = sites }

-- ---- for the steps behind the sort, on the row x, with the starts of runs in r

module _ (text : ℕ → List ℕ) (s starts y x v r : List ℕ) (g m : ℕ) (rd : SitesReady s starts y g m) (ar : Arranged text y x g)
    (l : length x ≡ length y) (h : m ≤ length y) (n : length r ≡ length v) (k : m ≤ length v)
  where
    pub for_writing : (t : List ℕ) → m ≤ length t → (g ≤ length x) × (g ≤ length r) × FirstDiffer x g × ((z : ℕ) → AmongFirst x g z → z < length t)
    for_writing t o = let f = rd.few in (omega arith, omega arith, ar.apart, λ z p. omega (arith, rd.inside z (ar.from z p)))

    pub for_naming : (t : List ℕ) → m ≤ length t → RunStarts text x r g
        → (g ≤ length x) × (g ≤ length r) × FirstDiffer x g × ((z : ℕ) → AmongFirst x g z → z < length t) × ((p : ℕ) → p < g → get_or r p 0 < g)
    for_naming t o rn =
        let w = for_writing t o in
        (w.0, w.1, w.2, w.3, λ p i. omega (arith, (run-start text x r g ar.lined rn p i).0))

    pub for_keeping : (g ≤ length x) × (g ≤ length r) × (g ≤ 65536) × FirstDiffer x g
    for_keeping = let f = rd.few in let b = rd.small in (omega arith, omega arith, omega arith, ar.apart)
