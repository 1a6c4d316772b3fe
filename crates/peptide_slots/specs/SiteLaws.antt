-- Loops that gather sites: what is written so far, and what is left. Assumes nothing.
use Prim.Native.Nat.{ℕ, zero, suc, ◌+◌, ◌-◌, ◌*◌, ◌/◌, ◌≤◌, ◌<◌}
use Rattle.std.specs.Prelude.{◌≡◌, refl, Bool, true, false, ◌&&◌, eqb, length, get_or}
use Rattle.std.proofs.Math.Path.{sym, ap}
use Rattle.std.proofs.Common.{◌∙◌, subst, add-one}
use mathlib.Core.List.{List, [], ◌++◌, append_assoc, append-nil}
use native.Mathlib.Omega.{arith}
use Rattle.std.proofs.Math.Nat.{sub-zero}
use Rattle.std.proofs.Math.ListN.{length-append}
use Rattle.peptide_slots.specs.Hits.{at_first, at_last, hits_at}
use Rattle.peptide_slots.specs.Sites.{slot_of, rule_of, if_hit, hit_from, places_of, slot_numbers, kind_at, letter_at, sites_from, all_sites}
use Rattle.peptide_slots.specs.WroteLaws.{Wrote, wrote_none, wrote_then}

-- ---- a site's rule and slot are read back

pub slot_back : (r slot : ℕ) → slot < 128 → slot_of (r * 128 + slot) ≡ slot
slot_back r slot h = omega arith

pub rule_back : (r slot : ℕ) → slot < 128 → rule_of (r * 128 + slot) ≡ r
rule_back r slot h = omega arith

-- ---- how many at most

if_few : (hit : Bool) (v : ℕ) → length (if_hit hit v) ≤ 1
unfolding if_hit
if_few true v = omega arith
if_few false v = omega arith

pub wrote_if : (hit : Bool) (v : ℕ) (old : List ℕ) (at : ℕ) (new : List ℕ) (r : ℕ) → Wrote old at (if_hit hit v) new r → r ≤ at + 1
wrote_if hit v old at new r w = omega (arith, w.next, if_few hit v)

from_few : (f : ℕ → Bool) (base j c : ℕ) → length (hit_from f base j c) ≤ c
unfolding hit_from
from_few f base j zero = omega arith
from_few f base j (suc c) = let h : length (hit_from f base (suc j) c) ≤ c = from_few f base (suc j) c in omega (arith, length-append (if_hit (f j) (base + (j + 2))) (hit_from f base (suc j) c), if_few (f j) (base + (j + 2)))

slots_few : (letters : List ℕ) (n kind pos letter base : ℕ) → length (slot_numbers letters n kind pos letter base) ≤ n + 2
unfolding slot_numbers places_of
slots_few letters n kind pos letter base =
    let f : ℕ → Bool = λ (k : ℕ). hits_at kind pos letter n k (get_or letters k 0) in
    let p : Bool = eqb letter 0 && at_first kind pos in
    let q : Bool = eqb letter 0 && at_last kind pos in
    omega (arith, length-append (if_hit p base) (if_hit q (base + 1) ++ hit_from f base 0 n), length-append (if_hit q (base + 1)) (hit_from f base 0 n), if_few p base, if_few q (base + 1), from_few f base 0 n)

pub sites_few : (letters : List ℕ) (n pos : ℕ) (rules : List ℕ) (r k : ℕ) → n ≤ 64 → length (sites_from letters n pos rules r k) ≤ k * 66
unfolding sites_from
sites_few letters n pos rules r zero h = omega arith
sites_few letters n pos rules r (suc k) h =
    let v : List ℕ = slot_numbers letters n (kind_at rules r) pos (letter_at rules r) (r * 128) in
    omega (arith, length-append v (sites_from letters n pos rules (suc r) k), slots_few letters n (kind_at rules r) pos (letter_at rules r) (r * 128), sites_few letters n pos rules (suc r) k h)

pub all_few : (letters : List ℕ) (n pos : ℕ) (rules : List ℕ) → n ≤ 64 → length rules ≤ 256 → length (all_sites letters n pos rules) ≤ 2112
unfolding all_sites
all_few letters n pos rules h l = omega (arith, sites_few letters n pos rules 0 (length rules / 8) h)

-- ---- the places of one rule

pub record HitsWritten (f : ℕ → Bool) (base n : ℕ) (old : List ℕ) (from : ℕ) (out : List ℕ) (next k : ℕ) : Type 0 where
  pub vs : List ℕ
  pub wrote : Wrote old from vs out next
  pub left : vs ++ hit_from f base k (n - k) ≡ hit_from f base 0 n
  pub few : length vs ≤ k
  pub len : length out ≡ length old

pub hits-written-none : (f : ℕ → Bool) (base n : ℕ) (old : List ℕ) (from : ℕ) → HitsWritten f base n old from old from 0
hits-written-none f base n old from = record { vs = []; wrote = wrote_none old from; left = ap (hit_from f base 0) (sub-zero n); few = omega arith; len = refl }

pub hits-written-more : (f : ℕ → Bool) (base n : ℕ) (old : List ℕ) (from : ℕ) (out : List ℕ) (next k : ℕ) (hit : Bool) (newer : List ℕ) (after : ℕ) → k < n → hit ≡ f k
    → Wrote out next (if_hit hit (base + (k + 2))) newer after → length newer ≡ length out → HitsWritten f base n old from out next k → HitsWritten f base n old from newer after (k + 1)
unfolding hit_from
hits-written-more f base n old from out next k hit newer after h e w l p =
    let s : n - k ≡ suc (n - (k + 1)) = omega arith in
    let v : List ℕ = if_hit hit (base + (k + 2)) in
    record {
      vs = p.vs ++ v;
      wrote = wrote_then old from p.vs out next v newer after p.wrote w;
      left =
          append_assoc p.vs v (hit_from f base (k + 1) (n - (k + 1)))
          ∙ ap (λ (t : Bool). p.vs ++ (if_hit t (base + (k + 2)) ++ hit_from f base (k + 1) (n - (k + 1)))) e
          ∙ ap (λ (z : ℕ). p.vs ++ (if_hit (f k) (base + (k + 2)) ++ hit_from f base z (n - (k + 1)))) (add-one k)
          ∙ ap (λ (z : ℕ). p.vs ++ hit_from f base k z) (sym s)
          ∙ p.left;
      few = let a : length p.vs ≤ k = p.few in omega (arith, length-append p.vs v, if_few hit (base + (k + 2)));
      len = l ∙ p.len;
    }

pub hits-written-all : (f : ℕ → Bool) (base n : ℕ) (old : List ℕ) (from : ℕ) (out : List ℕ) (next k : ℕ) → n ≤ k → HitsWritten f base n old from out next k → Wrote old from (hit_from f base 0 n) out next
unfolding hit_from
hits-written-all f base n old from out next k h p =
    let z : n - k ≡ 0 = omega arith in
    let e : p.vs ≡ hit_from f base 0 n = sym (append-nil p.vs) ∙ ap (λ (q : ℕ). p.vs ++ hit_from f base k q) (sym z) ∙ p.left in
    rw e at p.wrote

-- ---- one rule: two that may be hit, and a run

pub slots_wrote : (letters : List ℕ) (n kind pos letter base : ℕ) (b c : Bool) (old : List ℕ) (at : ℕ) (one : List ℕ) (r : ℕ) (two : List ℕ) (s : ℕ) (three : List ℕ) (t : ℕ)
    → b ≡ at_first kind pos → c ≡ at_last kind pos → Wrote old at (if_hit (eqb letter 0 && b) base) one r → Wrote one r (if_hit (eqb letter 0 && c) (base + 1)) two s
    → Wrote two s (places_of letters n kind pos letter base) three t → Wrote old at (slot_numbers letters n kind pos letter base) three t
unfolding slot_numbers
slots_wrote letters n kind pos letter base b c old at one r two s three t e f p q w =
    let vs : List ℕ = places_of letters n kind pos letter base in
    let first : Wrote old at (if_hit (eqb letter 0 && at_first kind pos) base) one r = subst (λ (z : Bool). Wrote old at (if_hit (eqb letter 0 && z) base) one r) e p in
    let last : Wrote one r (if_hit (eqb letter 0 && at_last kind pos) (base + 1)) two s = subst (λ (z : Bool). Wrote one r (if_hit (eqb letter 0 && z) (base + 1)) two s) f q in
    wrote_then old at (if_hit (eqb letter 0 && at_first kind pos) base) one r (if_hit (eqb letter 0 && at_last kind pos) (base + 1) ++ vs) three t first
    (wrote_then one r (if_hit (eqb letter 0 && at_last kind pos) (base + 1)) two s vs three t last w)

-- ---- rule after rule

pub record SitesWritten (letters : List ℕ) (n pos : ℕ) (rules : List ℕ) (count : ℕ) (old out : List ℕ) (at r : ℕ) : Type 0 where
  pub vs : List ℕ
  pub wrote : Wrote old 0 vs out at
  pub left : vs ++ sites_from letters n pos rules r (count - r) ≡ sites_from letters n pos rules 0 count
  pub few : length vs ≤ r * 66
  pub len : length out ≡ length old

module _ (letters : List ℕ) (n pos : ℕ) (rules : List ℕ) (count : ℕ) (old : List ℕ) where
  pub sites-written-none : SitesWritten letters n pos rules count old old 0 0
  sites-written-none = record { vs = []; wrote = wrote_none old 0; left = ap (sites_from letters n pos rules 0) (sub-zero count); few = omega arith; len = refl }

  pub sites-written-more : (out : List ℕ) (at r : ℕ) (newer : List ℕ) (next : ℕ) → n ≤ 64 → r < count
      → Wrote out at (slot_numbers letters n (kind_at rules r) pos (letter_at rules r) (r * 128)) newer next → length newer ≡ length out
      → SitesWritten letters n pos rules count old out at r → SitesWritten letters n pos rules count old newer next (r + 1)
  unfolding sites_from
  sites-written-more out at r newer next u h w l g =
      let s : count - r ≡ suc (count - (r + 1)) = omega arith in
      let v : List ℕ = slot_numbers letters n (kind_at rules r) pos (letter_at rules r) (r * 128) in
      record {
        vs = g.vs ++ v;
        wrote = wrote_then old 0 g.vs out at v newer next g.wrote w;
        left =
            append_assoc g.vs v (sites_from letters n pos rules (r + 1) (count - (r + 1)))
            ∙ ap (λ (z : ℕ). g.vs ++ (v ++ sites_from letters n pos rules z (count - (r + 1)))) (add-one r)
            ∙ ap (λ (z : ℕ). g.vs ++ sites_from letters n pos rules r z) (sym s)
            ∙ g.left;
        few = omega (arith, g.few, length-append g.vs v, slots_few letters n (kind_at rules r) pos (letter_at rules r) (r * 128));
        len = l ∙ g.len;
      }

  pub sites-written-all : (out : List ℕ) (at r : ℕ) → count ≡ length rules / 8 → count ≤ r → SitesWritten letters n pos rules count old out at r → Wrote old 0 (all_sites letters n pos rules) out at
  unfolding sites_from all_sites
  sites-written-all out at r q h g =
      let z : count - r ≡ 0 = omega arith in
      let e : g.vs ≡ sites_from letters n pos rules 0 (length rules / 8) = sym (append-nil g.vs) ∙ ap (λ (y : ℕ). g.vs ++ sites_from letters n pos rules r y) (sym z) ∙ g.left ∙ ap (sites_from letters n pos rules 0) q in
      rw e at g.wrote
