-- Document 01, "Cutting": base sites, windows, semi sites, and the digests that are kept of them.
use Rattle.std.specs.Prelude.{ℕ, zero, suc, ◌+◌, ◌-◌, Bool, false, cond, not, ◌&&◌, ◌||◌, length, take, drop, leb, eqb}
use mathlib.Core.List.{List, [], ◌∷◌, ◌++◌, foldl}
use Rattle.lists.specs.Lists.{same}
use Rattle.letters.specs.declared.letter_set.LetterSet.{LetterSet}
use Rattle.letters.specs.Letters.{has}
use Rattle.enzyme_cuts.specs.declared.kinds.Side.{Side}
use Rattle.enzyme_cuts.specs.declared.kinds.Side.TheVariants.{C, N}
use Rattle.enzyme_cuts.specs.declared.kinds.Kind.{Kind}
use Rattle.enzyme_cuts.specs.declared.kinds.Kind.TheVariants.{None, End, Set}
use Rattle.enzyme_cuts.specs.declared.kinds.Enzyme.{Enzyme}
use Rattle.enzyme_cuts.specs.declared.kinds.Knife.{Knife}

-- the places from `from` up to, not including, `to`, with `missed` missed cleavages; `semi` is 0 or 1
pub record Range : Type 0 where
  pub from : ℕ
  pub to : ℕ
  pub missed : ℕ
  pub semi : ℕ

abbrev pub range : ℕ → ℕ → ℕ → ℕ → Range
range a e m x = record { from = a; to = e; missed = m; semi = x }

abbrev pub site : ℕ → ℕ → Range
site a e = range a e 0 0

-- an empty set means "none"
abbrev pub meant : Kind → Kind
meant None = None
meant End = End
meant (Set cleave) = cond (eqb cleave.mask 0) None (Set cleave)

abbrev pub knife : LetterSet → LetterSet → Side → Knife
knife cleave skip side = record { cleave = cleave; skip = skip; side = side }

-- a member at place i cuts at i + 1 (C side) or i (N side)
abbrev pub cut_of : Side → ℕ → ℕ
cut_of C i = i + 1
cut_of N i = i

-- the letters at the cut of the letter b, which has bs behind it
abbrev pub at_cut : Side → ℕ → List ℕ → List ℕ
at_cut C b bs = bs
at_cut N b bs = b ∷ bs

-- whether a list starts with a letter of the set
abbrev pub starts_in : LetterSet → List ℕ → Bool
starts_in set [] = false
starts_in set (b ∷ bs) = has set b

-- whether the letter b, which has bs behind it, cuts: a member, and the letter at the cut, if any, is not in the skip set
abbrev pub cuts_at : Knife → ℕ → List ℕ → Bool
cuts_at k b bs = has k.cleave b && not (starts_in k.skip (at_cut k.side b bs))

-- the base sites of a set, of the letters from place i on: `left` starts at 0; from the left, a letter that cuts emits
-- left..cut and sets `left` to the cut; at the end left..n is emitted
abbrev pub set_sites : Knife → ℕ → ℕ → List ℕ → List Range
set_sites k left i [] = site left i ∷ []
set_sites k left i (b ∷ bs) =
    let cut = cut_of k.side i in
    cond (cuts_at k b bs) (site left cut ∷ set_sites k cut (suc i) bs) (set_sites k left (suc i) bs)

-- "end" emits 0..n and n..n
abbrev pub end_sites : ℕ → List Range
end_sites n = site 0 n ∷ site n n ∷ []

-- the first start to the last end
abbrev pub span : ℕ → Range → Range → Range
span m r q = range r.from q.to m 0

abbrev pub zip : ℕ → List Range → List Range → List Range
zip m [] qs = []
zip m (r ∷ rs) [] = []
zip m (r ∷ rs) (q ∷ qs) = span m r q ∷ zip m rs qs

-- the windows of m + 1 neighbouring sites: each site with the one m places on
abbrev pub windows : ℕ → List Range → List Range
windows m rs = zip m rs (drop m rs)

-- the windows of m + 1, m + 2, .. sites, n sizes in all
abbrev pub windows_from : ℕ → ℕ → List Range → List Range
windows_from m zero rs = []
windows_from m (suc n) rs = windows m rs ++ windows_from (suc m) n rs

-- with missed cleavages above 0, after the base sites all windows of 1 to missed + 1 of them: missed + 1 sizes
abbrev pub with_windows : ℕ → List Range → List Range
with_windows zero rs = rs
with_windows (suc m) rs = rs ++ windows_from 0 (suc (suc m)) rs

-- a site cut in two at c, at c + 1, .., n cuts in all
abbrev pub halves : Range → ℕ → ℕ → List Range
halves r c zero = []
halves r c (suc n) = range r.from c r.missed 1 ∷ range c r.to r.missed 1 ∷ halves r (suc c) n

-- each cut from start to end - 1
abbrev pub semi_of : Range → List Range
semi_of r = halves r r.from (r.to - r.from)

abbrev pub semis : List Range → List Range
semis [] = []
semis (r ∷ rs) = semi_of r ++ semis rs

-- with the semi flag, after all sites the semi sites of each
abbrev pub with_semis : Bool → List Range → List Range
with_semis semi rs = rs ++ cond semi (semis rs) []

-- the ranges of one length that start at i, i + 1, .., n in all
abbrev pub starting : ℕ → ℕ → ℕ → List Range
starting len i zero = []
starting len i (suc n) = site i (i + len) ∷ starting len (suc i) n

-- each start whose range ends within n, ascending
abbrev pub of_length : ℕ → ℕ → List Range
of_length n len = starting len 0 (suc n - len)

-- the lengths len, len + 1, .., m in all
abbrev pub of_lengths : ℕ → ℕ → ℕ → List Range
of_lengths n len zero = []
of_lengths n len (suc m) = of_length n len ++ of_lengths n (suc len) m

-- each length from minimum to maximum
abbrev pub none_sites : ℕ → ℕ → ℕ → List Range
none_sites n minimum maximum = of_lengths n minimum (suc maximum - minimum)

-- every site that is looked at, in order
abbrev pub sites_of : Kind → Enzyme → ℕ → ℕ → ℕ → List ℕ → List Range
sites_of None e missed minimum maximum s = none_sites (length s) minimum maximum
sites_of End e missed minimum maximum s = with_windows missed (end_sites (length s))
sites_of (Set cleave) e missed minimum maximum s =
    with_semis e.semi (with_windows missed (set_sites (knife cleave e.skip e.side) 0 0 s))

abbrev pub candidates : Enzyme → ℕ → ℕ → ℕ → List ℕ → List Range
candidates e missed minimum maximum s = sites_of (meant e.kind) e missed minimum maximum s

-- the letters of a range
abbrev pub part : List ℕ → Range → List ℕ
part s r = take (r.to - r.from) (drop r.from s)

-- whether one of the ranges has the letters new
abbrev pub seen_in : List ℕ → List Range → List ℕ → Bool
seen_in s [] new = false
seen_in s (k ∷ ks) new = same (part s k) new || seen_in s ks new

-- whether the length is at least 1 and within minimum and maximum
abbrev pub within : ℕ → ℕ → ℕ → Bool
within minimum maximum len = leb 1 len && leb minimum len && leb len maximum

-- whether r is kept, where ks are kept so far
abbrev pub wanted : List ℕ → ℕ → ℕ → List Range → Range → Bool
wanted s minimum maximum ks r = within minimum maximum (r.to - r.from) && not (seen_in s ks (part s r))

-- the kept, with r where it is wanted
abbrev pub kept : List ℕ → ℕ → ℕ → List Range → Range → List Range
kept s minimum maximum ks r = cond (wanted s minimum maximum ks r) (ks ++ (r ∷ [])) ks

-- the digests of the letters s
abbrev pub digests : Enzyme → ℕ → ℕ → ℕ → List ℕ → List Range
digests e missed minimum maximum s = foldl (kept s minimum maximum) [] (candidates e missed minimum maximum s)

-- ---- document 02, [7]: "the number of different ranges among the sites of that protein whose letters equal this peptide's"

-- whether a range with this start and this end stands in the list
abbrev pub stands_in : Range → List Range → Bool
stands_in r [] = false
stands_in r (q ∷ qs) = (eqb q.from r.from && eqb q.to r.to) || stands_in r qs

-- the different ranges: each start and end once, whatever missed and semi say
abbrev pub different : List Range → List Range
different [] = []
different (r ∷ rs) = cond (stands_in r rs) (different rs) (r ∷ different rs)

-- how many of the ranges have the letters x
abbrev pub having : List ℕ → List Range → List ℕ → ℕ
having s [] x = 0
having s (q ∷ qs) x = cond (same (part s q) x) (suc (having s qs x)) (having s qs x)

-- how often the letters of r occur among the sites
abbrev pub occurs : List ℕ → List Range → Range → ℕ
occurs s sites r = having s (different sites) (part s r)
