-- Laws of the numbers of records: one for each way that a range may go. Assumes nothing.
use Rattle.std.specs.Prelude.{ℕ, zero, suc, ◌+◌, ◌-◌, ◌*◌, ◌/◌, ◌%◌, ◌≤◌, ◌<◌, ◌≡◌, refl, Bool, true, false, cond, ◌&&◌, ◌||◌, ◌⊎◌, List, [], ◌∷◌, ◌++◌, length, take, drop, get_or}
use Rattle.std.proofs.Common.{sym, ap₂, ◌∙◌, inl, inr, ⊎_elim, append_assoc, arith, drop_of_length-le, drop-cons, drop_at, take_at, length-take-le}
use Rattle.std.proofs.Math.Path.{ap}
use Rattle.std.proofs.Math.ListN.{get_or-append}
use Rattle.std.proofs.lemmas.List.Edits.{sets, sets-eq}
use Rattle.std.proofs.Math.Seq.{length-sets}
use Rattle.std.proofs.lemmas.List.{get_or_at}
use Rattle.lists.specs.Tests.{below?, same?, truth?}
use Rattle.lists.specs.Lists.{same}
use Rattle.lists.specs.SameLaws.{same_refl, same-eq}
use Rattle.records.specs.Le.{le, value, number_at}
use Rattle.records.specs.LeLaws.{Apart, get_or-sets_other}
use Rattle.enzyme_cuts.specs.Cutting.{Range, site, part, seen_in, within}
use Rattle.enzyme_cuts.specs.KeepLaws.{seen_in_append}
use Rattle.enzyme_keep.specs.declared.offering.Terms.{Terms}
use Rattle.enzyme_keep.specs.Buffer.{range_at, ranges_in, times_at}
use Rattle.enzyme_keep.specs.BufferLaws.{length-ranges, ranges-behind}
use Rattle.enzyme_list.specs.ChainLaws.{range-read}
use Rattle.enzyme_list.specs.Tally.{added_by, times_added, Tally}

-- ---- bytes

-- bytes that no store reaches
bytes_apart : (w : ℕ) (vs s : List ℕ) (at j : ℕ) → Apart j w at (length vs) → take w (drop j (sets s at vs)) ≡ take w (drop j s)
bytes_apart zero vs s at j h = refl
bytes_apart (suc w) vs s at j h = go (below? j (length s)) (bytes_apart w vs s at (suc j) (⊎_elim (λ (x : j + suc w ≤ at). inl (omega arith)) (λ (x : at + length vs ≤ j). inr (omega arith)) h))
  where
    go : (j < length s) ⊎ (length s ≤ j) → take w (drop (suc j) (sets s at vs)) ≡ take w (drop (suc j) s) → take (suc w) (drop j (sets s at vs)) ≡ take (suc w) (drop j s)
    go (inl x) ih =
        let l = length-sets s at vs in
        let e : get_or (sets s at vs) j 0 ≡ get_or s j 0 = get_or-sets_other vs s at j (⊎_elim (λ (y : j + suc w ≤ at). inl (omega arith)) (λ (y : at + length vs ≤ j). inr (omega arith)) h) in
        rw (drop-cons (sets s at vs) j 0 (omega arith), drop-cons s j 0 x) (ap₂ (λ (b : ℕ) (bs : List ℕ). b ∷ bs) e ih)
    go (inr x) ih =
        let l = length-sets s at vs in
        let k : length (sets s at vs) ≤ j = omega arith in
        rw (drop_of_length-le (sets s at vs) k, drop_of_length-le s x)

pub times_apart : (k : ℕ) (vs out : List ℕ) (i : ℕ) → Apart (20 * k + 16) 4 i (length vs) → times_at k (sets out i vs) ≡ times_at k out
times_apart k vs out i h = bytes_apart 4 vs out i (20 * k + 16) h

-- bytes as they were stored
bytes_stored : (vs s : List ℕ) (at w : ℕ) → length vs ≡ w → at + w ≤ length s → take w (drop at (sets s at vs)) ≡ vs
bytes_stored vs s at w l h =
    let t : length (take at s) ≡ at = length-take-le at s (omega arith) in
    let e : sets s at vs ≡ take at s ++ (vs ++ drop (at + length vs) s) = sets-eq vs s at (omega arith) ∙ append_assoc (take at s) vs (drop (at + length vs) s) in
    rw (e, drop_at (take at s) (vs ++ drop (at + length vs) s) at t, take_at vs (drop (at + length vs) s) w l)

-- four bytes have a number up to what goes round at 2^32
le-round : (x : ℕ) → le 4 (x % 4294967296) ≡ le 4 x
le-round x = λ i. a i ∷ b i ∷ c i ∷ d i ∷ []
  where
    one : (x y q : ℕ) → x ≡ 4294967296 * q + y → x / 256 ≡ 16777216 * q + y / 256
    one x y q e = omega arith

    two : (x y q : ℕ) → x ≡ 16777216 * q + y → x / 256 ≡ 65536 * q + y / 256
    two x y q e = omega arith

    three : (x y q : ℕ) → x ≡ 65536 * q + y → x / 256 ≡ 256 * q + y / 256
    three x y q e = omega arith

    e0 : x ≡ 4294967296 * (x / 4294967296) + x % 4294967296
    e0 = omega arith

    e1 : x / 256 ≡ 16777216 * (x / 4294967296) + x % 4294967296 / 256
    e1 = one x (x % 4294967296) (x / 4294967296) e0

    e2 : x / 256 / 256 ≡ 65536 * (x / 4294967296) + x % 4294967296 / 256 / 256
    e2 = two (x / 256) (x % 4294967296 / 256) (x / 4294967296) e1

    e3 : x / 256 / 256 / 256 ≡ 256 * (x / 4294967296) + x % 4294967296 / 256 / 256 / 256
    e3 = three (x / 256 / 256) (x % 4294967296 / 256 / 256) (x / 4294967296) e2

    low : (x y m : ℕ) → x ≡ 256 * m + y → y % 256 ≡ x % 256
    low x y m e = omega arith

    a : x % 4294967296 % 256 ≡ x % 256
    a = low x (x % 4294967296) (16777216 * (x / 4294967296)) (omega (arith, e0))

    b : x % 4294967296 / 256 % 256 ≡ x / 256 % 256
    b = low (x / 256) (x % 4294967296 / 256) (65536 * (x / 4294967296)) (omega (arith, e1))

    c : x % 4294967296 / 256 / 256 % 256 ≡ x / 256 / 256 % 256
    c = low (x / 256 / 256) (x % 4294967296 / 256 / 256) (256 * (x / 4294967296)) (omega (arith, e2))

    d : x % 4294967296 / 256 / 256 / 256 % 256 ≡ x / 256 / 256 / 256 % 256
    d = low (x / 256 / 256 / 256) (x % 4294967296 / 256 / 256 / 256) (x / 4294967296) e3

value-round : (x : ℕ) → value (le 4 x) ≡ x % 4294967296
value-round x = omega arith

le-sum : (x n : ℕ) → le 4 ((value (le 4 x) + n) % 4294967296) ≡ le 4 (x + n)
le-sum x n =
    let v = value-round x in
    let e : (value (le 4 x) + n) % 4294967296 ≡ (x + n) % 4294967296 = omega arith in
    ap (le 4) e ∙ le-round (x + n)

-- ---- letters

unlike : (a b : List ℕ) → (a ≡ b → ⊥) → same a b ≡ false
unlike a b h = ⊎_elim (λ (e : same a b ≡ true). absurd (h (same-eq a b e))) (λ (e : same a b ≡ false). e) (truth? (same a b))

pub clash : (b : Bool) → b ≡ true → b ≡ false → ⊥
clash b p q = let z : ◌≡◌ {A = ℕ} 0 1 = cc in omega arith

differs : (a b : List ℕ) → same a b ≡ false → a ≡ b → ⊥
differs a b h e = clash (same a b) (rw e (same_refl b)) h

or_first : (a b : Bool) → (a || (b || false)) ≡ false → a ≡ false
or_first true b h = h
or_first false b h = refl

or_last : (a b : Bool) → (a || (b || false)) ≡ false → b ≡ false
or_last true true h = h
or_last false true h = h
or_last true false h = refl
or_last false false h = refl

-- a record has other letters than those that none has
unseen_record : (s : List ℕ) (count : ℕ) (out new : List ℕ) → seen_in s (ranges_in count out) new ≡ false → (k : ℕ) → k < count → part s (range_at out (20 * k)) ≡ new → ⊥
unseen_record s zero out new h k l e = absurd (omega arith)
unseen_record s (suc n) out new h k l e =
    let g : (seen_in s (ranges_in n out) new || (same (part s (range_at out (20 * n))) new || false)) ≡ false = sym (seen_in_append s (ranges_in n out) (range_at out (20 * n) ∷ []) new) ∙ h in
    ⊎_elim (λ (x : k < n). unseen_record s n out new (or_first (seen_in s (ranges_in n out) new) (same (part s (range_at out (20 * n))) new) g) k x e)
    (λ (x : n ≤ k). let q : k ≡ n = omega arith in differs (part s (range_at out (20 * n))) new (or_last (seen_in s (ranges_in n out) new) (same (part s (range_at out (20 * n))) new) g) (rw q at e)) (below? k n)

-- ---- the records' numbers

pub tally_alike : {s : List ℕ} {t : Terms} {count : ℕ} {full : Bool} {out : List ℕ} (T U : List ℕ → ℕ) → ((x : List ℕ) → T x ≡ U x) → Tally s t count full out T → Tally s t count full out U
tally_alike {s} {t} {count} {full} {out} T U e h = record {
  told = λ k l. h.told k l ∙ ap (le 4) (e (part s (range_at out (20 * k))));
  fit = h.fit;
  differ = h.differ;
  none = λ f x u. sym (e x) ∙ h.none f x u;
}

-- no record yet
pub tally_start : (s : List ℕ) (t : Terms) (out : List ℕ) → Tally s t 0 false out (λ x. 0)
tally_start s t out = record { told = λ k l. absurd (omega arith); fit = λ k l. absurd (omega arith); differ = λ i j g l e. omega arith; none = λ f x u. refl }

module _ (s : List ℕ) (t : Terms) (r : Range) (times : ℕ) where
  added_none : (x : List ℕ) → same (part s r) x ≡ false → added_by s t r times x ≡ 0
  added_none x e = go (within t.minimum t.maximum (r.to - r.from))
    where
      go : (w : Bool) → cond (w && same (part s r) x) times 0 ≡ 0
      go true = rw e
      go false = refl

  module _ (fits : within t.minimum t.maximum (r.to - r.from) ≡ true) where
    added-own : (x : List ℕ) → x ≡ part s r → added_by s t r times x ≡ times
    added-own x e =
        let z : same (part s r) x ≡ true = rw e (same_refl (part s r)) in
        rw (fits, z)

  module _ (count : ℕ) (full : Bool) (out : List ℕ) (T : List ℕ → ℕ) (h : Tally s t count full out T) where
    -- the bytes of the number that the letters of a range get, and whether its length fits
    abbrev number : Range → List ℕ
    number q = le 4 (T (part s q) + added_by s t r times (part s q))

    abbrev fitting : Range → Bool
    fitting q = within t.minimum t.maximum (q.to - q.from)

    -- its length does not fit
    pub tally_unfit : within t.minimum t.maximum (r.to - r.from) ≡ false → Tally s t count full out (λ x. T x + added_by s t r times x)
    tally_unfit w = tally_alike T (λ x. T x + added_by s t r times x) (λ x. rw w (omega arith)) h

    -- no record has its letters
    module _ (fresh : seen_in s (ranges_in count out) (part s r) ≡ false) where
      other : (k : ℕ) → k < count → added_by s t r times (part s (range_at out (20 * k))) ≡ 0
      other k l = added_none (part s (range_at out (20 * k))) (unlike (part s r) (part s (range_at out (20 * k))) (λ e. unseen_record s count out (part s r) fresh k l (sym e)))

      plus : (x n y : ℕ) → y ≡ 0 → x ≡ n → le 4 n ≡ le 4 (x + y)
      plus x n y e f = ap (le 4) (omega arith)

      -- there is no room
      pub tally_full : Tally s t count true out (λ x. T x + added_by s t r times x)
      tally_full = record {
        told = λ k l. h.told k l ∙ plus (T (part s (range_at out (20 * k)))) (T (part s (range_at out (20 * k)))) (added_by s t r times (part s (range_at out (20 * k)))) (other k l) refl;
        fit = h.fit;
        differ = h.differ;
        none = λ f. absurd (clash true refl f);
      }

      -- it was written
      module _ (fits : within t.minimum t.maximum (r.to - r.from) ≡ true) (roomy : full ≡ false) (out' : List ℕ) (ranges : ranges_in (suc count) out' ≡ ranges_in count out ++ (r ∷ []))
          (stay : (k : ℕ) → k < count → times_at k out' ≡ times_at k out) (new : times_at count out' ≡ le 4 times) where
        range_old : (k : ℕ) → k < count → range_at out' (20 * k) ≡ range_at out (20 * k)
        range_old k l =
            let n = length-ranges count out in
            sym (range-read (suc count) out' k (omega arith)) ∙ ap (λ (ks : List Range). get_or ks k (site 0 0)) ranges ∙ get_or-append (ranges_in count out) (r ∷ []) (site 0 0) k (omega arith) ∙ range-read count out k l

        range-new : range_at out' (20 * count) ≡ r
        range-new =
            sym (range-read (suc count) out' count (omega arith)) ∙ ap (λ (ks : List Range). get_or ks count (site 0 0)) ranges ∙ get_or_at (ranges_in count out) r [] (site 0 0) count (length-ranges count out)

        more-told : (k : ℕ) → (k < count) ⊎ (count ≤ k) → k < suc count → times_at k out' ≡ le 4 (T (part s (range_at out' (20 * k))) + added_by s t r times (part s (range_at out' (20 * k))))
        more-told k (inl x) l = stay k x ∙ h.told k x ∙ plus (T (part s (range_at out (20 * k)))) (T (part s (range_at out (20 * k)))) (added_by s t r times (part s (range_at out (20 * k)))) (other k x) refl ∙ ap number (sym (range_old k x))
        more-told k (inr x) l =
            let e : k ≡ count = omega arith in
            let z = h.none roomy (part s r) fresh in
            let y = added-own fits (part s r) refl in
            let g : T (part s r) + added_by s t r times (part s r) ≡ times = omega arith in
            rw e (new ∙ ap (le 4) (sym g) ∙ ap number (sym range-new))

        more_fit : (k : ℕ) → (k < count) ⊎ (count ≤ k) → k < suc count → within t.minimum t.maximum ((range_at out' (20 * k)).to - (range_at out' (20 * k)).from) ≡ true
        more_fit k (inl x) l = ap fitting (range_old k x) ∙ h.fit k x
        more_fit k (inr x) l =
            let e : k ≡ count = omega arith in
            rw e (ap fitting range-new ∙ fits)

        more_differ : (i j : ℕ) → (j < count) ⊎ (count ≤ j) → i < j → j < suc count → part s (range_at out' (20 * i)) ≡ part s (range_at out' (20 * j)) → ⊥
        more_differ i j (inl x) g l e = h.differ i j g x (ap (part s) (sym (range_old i (omega arith))) ∙ e ∙ ap (part s) (range_old j x))
        more_differ i j (inr x) g l e =
            let q : j ≡ count = omega arith in
            let d : part s (range_at out' (20 * i)) ≡ part s (range_at out' (20 * count)) = rw q at e in
            unseen_record s count out (part s r) fresh i (omega arith) (ap (part s) (sym (range_old i (omega arith))) ∙ d ∙ ap (part s) range-new)

        more-none : (x : List ℕ) → seen_in s (ranges_in (suc count) out') x ≡ false → T x + added_by s t r times x ≡ 0
        more-none x u =
            let g : (seen_in s (ranges_in count out) x || (same (part s r) x || false)) ≡ false = sym (seen_in_append s (ranges_in count out) (r ∷ []) x) ∙ (rw ranges at u) in
            let a = h.none roomy x (or_first (seen_in s (ranges_in count out) x) (same (part s r) x) g) in
            let b = added_none x (or_last (seen_in s (ranges_in count out) x) (same (part s r) x) g) in
            omega arith

        pub tally_more : Tally s t (suc count) false out' (λ x. T x + added_by s t r times x)
        tally_more = record {
          told = λ k l. more-told k (below? k count) l;
          fit = λ k l. more_fit k (below? k count) l;
          differ = λ i j g l. more_differ i j (below? j count) g l;
          none = λ f x u. more-none x u;
        }

    -- record u has its letters
    module _ (fits : within t.minimum t.maximum (r.to - r.from) ≡ true) (u : ℕ) (some : 0 < u) (few : u ≤ count) (room : 20 * count ≤ length out)
        (found : part s (range_at out (20 * (u - 1))) ≡ part s r) where
      ranges_found : ranges_in count (times_added out u times) ≡ ranges_in count out
      ranges_found = ranges-behind (le 4 ((number_at 4 out (20 * (u - 1) + 16) + times) % 4294967296)) (u - 1) (20 * (u - 1) + 16) count out (omega arith) (omega arith)

      range_found : (k : ℕ) → k < count → range_at (times_added out u times) (20 * k) ≡ range_at out (20 * k)
      range_found k l = sym (range-read count (times_added out u times) k l) ∙ ap (λ (ks : List Range). get_or ks k (site 0 0)) ranges_found ∙ range-read count out k l

      number_found : number_at 4 out (20 * (u - 1) + 16) ≡ value (le 4 (T (part s (range_at out (20 * (u - 1))))))
      unfolding number_at
      number_found = ap value (h.told (u - 1) (omega arith))

      found_told : (k : ℕ) → k < count → (k ≡ u - 1) ⊎ (k ≡ u - 1 → ⊥) → times_at k (times_added out u times) ≡ le 4 (T (part s (range_at out (20 * k))) + added_by s t r times (part s (range_at out (20 * k))))
      found_told k l (inl e) =
          let x : List ℕ = part s (range_at out (20 * (u - 1))) in
          let y = added-own fits x found in
          let a : times_at (u - 1) (times_added out u times) ≡ le 4 ((number_at 4 out (20 * (u - 1) + 16) + times) % 4294967296) =
          bytes_stored (le 4 ((number_at 4 out (20 * (u - 1) + 16) + times) % 4294967296)) out (20 * (u - 1) + 16) 4 refl (omega arith) in
          let b : le 4 ((number_at 4 out (20 * (u - 1) + 16) + times) % 4294967296) ≡ le 4 (T x + times) = ap (λ (n : ℕ). le 4 ((n + times) % 4294967296)) number_found ∙ le-sum (T x) times in
          rw e (a ∙ b ∙ ap (λ (n : ℕ). le 4 (T x + n)) (sym y))
      found_told k l (inr e) =
          let p : Apart (20 * k + 16) 4 (20 * (u - 1) + 16) 4 = ⊎_elim (λ (z : k < u - 1). inl (omega arith)) (λ (z : u - 1 ≤ k). inr (omega (arith, ne_lt z))) (below? k (u - 1)) in
          let y : added_by s t r times (part s (range_at out (20 * k))) ≡ 0 = added_none (part s (range_at out (20 * k))) (unlike (part s r) (part s (range_at out (20 * k))) apart) in
          times_apart k (le 4 ((number_at 4 out (20 * (u - 1) + 16) + times) % 4294967296)) out (20 * (u - 1) + 16) p ∙ h.told k l ∙ ap (le 4) (omega arith)
        where
          ne_lt : u - 1 ≤ k → u - 1 < k
          ne_lt z = ⊎_elim (λ (y : u - 1 < k). y) (λ (y : k ≤ u - 1). absurd (e (omega arith))) (below? (u - 1) k)

          apart : part s r ≡ part s (range_at out (20 * k)) → ⊥
          apart q = ⊎_elim (λ (z : k < u - 1). h.differ k (u - 1) z (omega arith) (sym (found ∙ q))) (λ (z : u - 1 ≤ k). h.differ (u - 1) k (ne_lt z) l (found ∙ q)) (below? k (u - 1))

      found_none : (x : List ℕ) → full ≡ false → seen_in s (ranges_in count out) x ≡ false → T x + added_by s t r times x ≡ 0
      found_none x f g =
          let a = h.none f x g in
          let b = added_none x (unlike (part s r) x (λ e. unseen_record s count out x g (u - 1) (omega arith) (found ∙ e))) in
          omega arith

      pub tally_found : Tally s t count full (times_added out u times) (λ x. T x + added_by s t r times x)
      tally_found = record {
        told = λ k l. found_told k l (same? k (u - 1)) ∙ ap number (sym (range_found k l));
        fit = λ k l. ap fitting (range_found k l) ∙ h.fit k l;
        differ = λ i j g l e. h.differ i j g l (ap (part s) (sym (range_found i (omega arith))) ∙ e ∙ ap (part s) (range_found j l));
        none = λ f x v. found_none x f (rw ranges_found at v);
      }
