-- What the code offers of the candidates: those that can never be kept are left out. The public statement does not cite this.
use Rattle.std.specs.Prelude.{ℕ, suc, ◌-◌, ◌≤◌, Bool, true, false, cond, List, [], ◌∷◌, ◌++◌, length}
use Rattle.enzyme_cuts.specs.declared.kinds.Kind.{Kind}
use Rattle.enzyme_cuts.specs.declared.kinds.Kind.TheVariants.{None, End, Set}
use Rattle.enzyme_cuts.specs.declared.kinds.Enzyme.{Enzyme}
use Rattle.enzyme_cuts.specs.declared.kinds.Knife.{Knife}
use Rattle.enzyme_cuts.specs.Cutting.{Range, site, knife, set_sites, windows_from, halves, none_sites, meant}

-- each cut within a site: a cut at its start gives the empty range and the site again
abbrev pub inner_halves : Range → List Range
inner_halves r = halves r (suc r.from) (r.to - suc r.from)

-- what is offered of a site: itself, or the parts that it is cut into
abbrev pub parts_of : Bool → Range → List Range
parts_of semi r = cond semi (inner_halves r) (r ∷ [])

abbrev pub all_parts : Bool → List Range → List Range
all_parts semi [] = []
all_parts semi (r ∷ rs) = parts_of semi r ++ all_parts semi rs

-- the windows of 1 to missed + 1 sites: those of one site are the sites
abbrev pub set_windows : Knife → ℕ → List ℕ → List Range
set_windows k missed s = windows_from 0 (suc missed) (set_sites k 0 0 s)

abbrev pub set_work : Knife → Bool → ℕ → List ℕ → List Range
set_work k semi missed s = all_parts false (set_windows k missed s) ++ cond semi (all_parts true (set_windows k missed s)) []

abbrev pub work_of : Kind → Enzyme → ℕ → ℕ → ℕ → List ℕ → List Range
work_of None e missed minimum maximum s = none_sites (length s) minimum maximum
work_of End e missed minimum maximum s = site 0 (length s) ∷ []
work_of (Set cleave) e missed minimum maximum s = set_work (knife cleave e.skip e.side) e.semi missed s

abbrev pub work : Enzyme → ℕ → ℕ → ℕ → List ℕ → List Range
work e missed minimum maximum s = work_of (meant e.kind) e missed minimum maximum s

-- each range lies within n letters
abbrev pub RangesWithin : ℕ → List Range → Type 0
RangesWithin n [] = Unit {0}
RangesWithin n (r ∷ rs) = (r.from ≤ r.to) × (r.to ≤ n) × RangesWithin n rs

-- all but the first
abbrev pub tail_of : List Range → List Range
tail_of [] = []
tail_of (r ∷ rs) = rs
