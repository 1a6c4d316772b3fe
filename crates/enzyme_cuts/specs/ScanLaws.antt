-- Laws of the search for a cut, and what a found cut says of the sites. Assumes nothing.
use Rattle.std.specs.Prelude.{ℕ, zero, suc, ◌+◌, ◌-◌, ◌≤◌, ◌<◌, ◌≡◌, refl, Bool, true, false, cond, not, ◌&&◌, List, [], ◌∷◌, length, drop, get_or, None}
use Rattle.std.proofs.Common.{sym, ap, ◌∙◌, arith, add-one, drop_of_length-le, length-drop, drop-cons, drop-drop}
use Rattle.letters.specs.declared.letter_set.LetterSet.{LetterSet}
use Rattle.letters.specs.Letters.{has}
use Rattle.enzyme_cuts.specs.declared.kinds.Side.{Side}
use Rattle.enzyme_cuts.specs.declared.kinds.Side.TheVariants.{C, N}
use Rattle.enzyme_cuts.specs.declared.kinds.Knife.{Knife}
use Rattle.enzyme_cuts.specs.Cutting.{Range, range, site, cut_of, at_cut, starts_in, cuts_at, set_sites, zip}
use Rattle.enzyme_cuts.specs.declared.scan.Cut.{Cut}
use Rattle.enzyme_cuts.specs.Scan.{cut_site, find_cut, cut_by}
use Rattle.enzyme_cuts.specs.Work.{tail_of}

pub starts-at : (set : LetterSet) (s : List ℕ) (i : ℕ) → i < length s → starts_in set (drop i s) ≡ has set (get_or s i 0)
starts-at set s i h = rw (drop-cons s i 0)

pub starts_end : (set : LetterSet) (s : List ℕ) (i : ℕ) → length s ≤ i → starts_in set (drop i s) ≡ false
starts_end set s i h = rw (drop_of_length-le s h)

-- the two steps of the code are those of the definition
pub cut_by_lem : (side : Side) (i : ℕ) → cut_by side i (i + 1) ≡ cut_of side i
cut_by_lem C i = refl
cut_by_lem N i = refl

at_cut_lem : (side : Side) (s : List ℕ) (i : ℕ) → i < length s → drop (cut_by side i (i + 1)) s ≡ at_cut side (get_or s i 0) (drop (suc i) s)
at_cut_lem C s i h = rw (add-one i)
at_cut_lem N s i h = drop-cons s i 0 h

-- what the code asks of a letter
abbrev pub asked : Knife → List ℕ → ℕ → Bool
asked k s i = has k.cleave (get_or s i 0) && not (starts_in k.skip (drop (cut_by k.side i (i + 1)) s))

asked_cuts : (k : Knife) (s : List ℕ) (i : ℕ) → i < length s → asked k s i ≡ cuts_at k (get_or s i 0) (drop (suc i) s)
asked_cuts k s i h = rw (at_cut_lem k.side s i h)

-- the search for a cut: it stops, goes on, ends
module _ (k : Knife) (s : List ℕ) (i : ℕ) where
  pub find_cut_stop : i < length s → asked k s i ≡ true → find_cut k i (drop i s) ≡ cut_site (cut_by k.side i (i + 1)) (i + 1)
  find_cut_stop h e =
      let e' : cuts_at k (get_or s i 0) (drop (suc i) s) ≡ true = sym (asked_cuts k s i h) ∙ e in
      rw (cut_by_lem k.side i, add-one i, drop-cons s i 0, e')

  pub find_cut-on : i < length s → asked k s i ≡ false → find_cut k i (drop i s) ≡ find_cut k (i + 1) (drop (i + 1) s)
  find_cut-on h e =
      let e' : cuts_at k (get_or s i 0) (drop (suc i) s) ≡ false = sym (asked_cuts k s i h) ∙ e in
      rw (add-one i, drop-cons s i 0, e')

  pub find_cut_end : length s ≤ i → find_cut k i (drop i s) ≡ None
  find_cut_end h = rw (drop_of_length-le s h)

cut_low : (side : Side) (i : ℕ) → i ≤ cut_of side i
cut_low C i = omega arith
cut_low N i = omega arith

cut_high : (side : Side) (i : ℕ) → cut_of side i ≤ suc i
cut_high C i = omega arith
cut_high N i = omega arith

-- cuts that are the same
same_place : (p x q e : ℕ) → cut_site p x ≡ cut_site q e → p ≡ q
same_place p x q e h =
    let f : ◌≡◌ {A = Cut} (record { place = p; next = x }) (record { place = q; next = e }) = cc in
    ap (λ (c : Cut). c.place) f

same_next : (p x q e : ℕ) → cut_site p x ≡ cut_site q e → x ≡ e
same_next p x q e h =
    let f : ◌≡◌ {A = Cut} (record { place = p; next = x }) (record { place = q; next = e }) = cc in
    ap (λ (c : Cut). c.next) f

-- what a found cut says of the sites
record Found-cut (k : Knife) (i p e : ℕ) (bs : List ℕ) : Type 0 where
  low : i ≤ p
  on : p ≤ e
  past : i < e
  high : e ≤ i + length bs
  sites : (left : ℕ) → set_sites k left i bs ≡ site left p ∷ set_sites k p e (drop (e - i) bs)

found_cut : (k : Knife) (i p e : ℕ) (bs : List ℕ) → find_cut k i bs ≡ cut_site p e → Found-cut k i p e bs
found_cut k i p e [] f = let z : ◌≡◌ {A = ℕ} 0 1 = cc in absurd (omega arith)
found_cut k i p e (b ∷ bs) f = go (cuts_at k b bs) refl f (found_cut k (suc i) p e bs)
  where
    go : (t : Bool) → cuts_at k b bs ≡ t → cond t (cut_site (cut_of k.side i) (suc i)) (find_cut k (suc i) bs) ≡ cut_site p e → (find_cut k (suc i) bs ≡ cut_site p e → Found-cut k (suc i) p e bs)
        → Found-cut k i p e (b ∷ bs)
    go true g f ih =
        let h = same_next (cut_of k.side i) (suc i) p e f in
        let q = same_place (cut_of k.side i) (suc i) p e f in
        let d : e - i ≡ 1 = omega arith in
        let l = cut_low k.side i in
        let u = cut_high k.side i in
        record { low = omega arith; on = omega arith; past = omega arith; high = omega arith; sites = λ left. rw (d, g, ← h, ← q) }
    go false g f ih =
        let x = ih f in
        let l = x.low in
        let m = x.past in
        let u = x.high in
        let d : e - i ≡ suc (e - suc i) = omega arith in
        record { low = omega arith; on = x.on; past = omega arith; high = omega arith; sites = λ left. rw (d, g) (x.sites left) }

-- what the end of the search says of the sites
last-site : (k : Knife) (left i : ℕ) (bs : List ℕ) → find_cut k i bs ≡ None → set_sites k left i bs ≡ site left (i + length bs) ∷ []
last-site k left i [] f = let e : i + 0 ≡ i = omega arith in rw e
last-site k left i (b ∷ bs) f = go (cuts_at k b bs) refl f (last-site k left (suc i) bs)
  where
    go : (t : Bool) → cuts_at k b bs ≡ t → cond t (cut_site (cut_of k.side i) (suc i)) (find_cut k (suc i) bs) ≡ None
        → (find_cut k (suc i) bs ≡ None → set_sites k left (suc i) bs ≡ site left (suc i + length bs) ∷ [])
        → set_sites k left i (b ∷ bs) ≡ site left (i + suc (length bs)) ∷ []
    go true g f ih = let z : ◌≡◌ {A = ℕ} 0 1 = cc in absurd (omega arith)
    go false g f ih = let e : i + suc (length bs) ≡ suc i + length bs = omega arith in rw (g, e) (ih f)

-- the same, of the letters from `at` on
pub record Cut-at (k : Knife) (at p e : ℕ) (s : List ℕ) : Type 0 where
  pub low : at ≤ p
  pub on : p ≤ e
  pub past : at < e
  pub high : e ≤ length s
  pub sites : (left : ℕ) → set_sites k left at (drop at s) ≡ site left p ∷ set_sites k p e (drop e s)

pub cut_at : (k : Knife) (at p e : ℕ) (s : List ℕ) → at ≤ length s → find_cut k at (drop at s) ≡ cut_site p e → Cut-at k at p e s
cut_at k at p e s h f =
    let x = found_cut k at p e (drop at s) f in
    let l = x.past in
    let u = x.high in
    let d = length-drop at s in
    let m : at + (e - at) ≡ e = omega arith in
    record { low = x.low; on = x.on; past = l; high = omega arith; sites = λ left. x.sites left ∙ rw (drop-drop (e - at) at s, m) }

pub last-at : (k : Knife) (left at : ℕ) (s : List ℕ) → at ≤ length s → find_cut k at (drop at s) ≡ None → set_sites k left at (drop at s) ≡ site left (length s) ∷ []
last-at k left at s h f =
    let d = length-drop at s in
    let m : at + length (drop at s) ≡ length s = omega arith in
    last-site k left at (drop at s) f ∙ rw m

-- the first cut from further on is no earlier
cut_mono' : (k : Knife) (d at p x q e : ℕ) (bs : List ℕ) → find_cut k at bs ≡ cut_site p x → find_cut k (at + d) (drop d bs) ≡ cut_site q e → x ≤ e
cut_mono' k zero at p x q e bs f g =
    let m : at + 0 ≡ at = omega arith in
    let g' : find_cut k at bs ≡ cut_site q e = rw m at g in
    let h = same_next p x q e (sym f ∙ g') in
    omega arith
cut_mono' k (suc d) at p x q e [] f g = let z : ◌≡◌ {A = ℕ} 0 1 = cc in absurd (omega arith)
cut_mono' k (suc d) at p x q e (b ∷ bs) f g =
    let m : at + suc d ≡ suc at + d = omega arith in
    go (cuts_at k b bs) f (found_cut k (at + suc d) q e (drop d bs) g).past (λ f'. cut_mono' k d (suc at) p x q e bs f' (rw m at g))
  where
    go : (t : Bool) → cond t (cut_site (cut_of k.side at) (suc at)) (find_cut k (suc at) bs) ≡ cut_site p x → at + suc d < e → (find_cut k (suc at) bs ≡ cut_site p x → x ≤ e) → x ≤ e
    go true f l ih = let h = same_next (cut_of k.side at) (suc at) p x f in omega arith
    go false f l ih = ih f

pub cut_mono : (k : Knife) (at₁ at₂ p x q e : ℕ) (s : List ℕ) → at₁ ≤ at₂ → find_cut k at₁ (drop at₁ s) ≡ cut_site p x → find_cut k at₂ (drop at₂ s) ≡ cut_site q e → x ≤ e
cut_mono k at₁ at₂ p x q e s h f g =
    let m : at₁ + (at₂ - at₁) ≡ at₂ = omega arith in
    let n : drop (at₂ - at₁) (drop at₁ s) ≡ drop at₂ s = rw (drop-drop (at₂ - at₁) at₁ s, m) in
    cut_mono' k (at₂ - at₁) at₁ p x q e (drop at₁ s) f (rw (m, n) g)

pub zip_nil : (m : ℕ) (rs : List Range) → zip m rs [] ≡ []
zip_nil m [] = refl
zip_nil m (r ∷ rs) = refl

-- the first window: it starts where the sites start
pub zip-head : (k : Knife) (m left i : ℕ) (bs : List ℕ) (q : Range) (qs : List Range)
    → zip m (set_sites k left i bs) (q ∷ qs) ≡ range left q.to m 0 ∷ zip m (tail_of (set_sites k left i bs)) qs
zip-head k m left i [] q qs = refl
zip-head k m left i (b ∷ bs) q qs = go (cuts_at k b bs) (zip-head k m left (suc i) bs q qs)
  where
    cut : ℕ
    cut = cut_of k.side i

    go : (t : Bool) → zip m (set_sites k left (suc i) bs) (q ∷ qs) ≡ range left q.to m 0 ∷ zip m (tail_of (set_sites k left (suc i) bs)) qs
        → zip m (cond t (site left cut ∷ set_sites k cut (suc i) bs) (set_sites k left (suc i) bs)) (q ∷ qs)
        ≡ range left q.to m 0 ∷ zip m (tail_of (cond t (site left cut ∷ set_sites k cut (suc i) bs) (set_sites k left (suc i) bs))) qs
    go true ih = refl
    go false ih = ih
