-- A choice passes if each place may join those before it; being bad is inherited. Assumes nothing.
use Prim.Native.Nat.{ℕ, suc, ◌+◌, ◌≤◌, ◌<◌}
use Rattle.std.specs.Prelude.{◌≡◌, Bool, ◌&&◌, length, get_or, take, drop}
use Rattle.std.proofs.Math.Path.{refl, sym, ap}
use Rattle.std.proofs.Common.{◌∙◌, subst, zero-add, take-append-drop, take-suc}
use mathlib.Core.List.{List, [], ◌∷◌, ◌++◌, append_assoc, append-nil}
use Rattle.std.proofs.Math.Bool.{true, false, not, and-true, and-false, and_assoc}
use native.Mathlib.Omega.{arith}
use Rattle.std.proofs.Math.Nat.{add-zero}
use Rattle.std.proofs.Math.Dec.{leb, ltb, eqb}
use borrow.Author.Tests.{le-leb, lt-leb, ltb-true, ltb-false, eqb-true, eq-eqb}
use Rattle.lists.specs.Tests.{eqb-sym}
use Rattle.lists.specs.Lists.{bit}
use Rattle.peptide_forms.specs.Passing.{free, in_limits, packed_passes, site_rule, site_slot, slots_once, uses}
use Rattle.peptide_slots.specs.Sites.{limit_at}

-- place k may join places that pass: its slot is free among them, and its rule has a use left
unfoldable pub may_join : List ℕ → List ℕ → List ℕ → ℕ → Bool
unfolding free uses
may_join sites rules p k = free sites (site_slot sites k) p && ltb (uses sites (site_rule sites k) p) (limit_at rules (site_rule sites k))

-- the middle two of four tests change places
pub swap : (a b c d : Bool) → (a && b) && (c && d) ≡ (a && c) && (b && d)
swap true true c d = refl
swap true false true d = refl
swap true false false d = refl
swap false b c d = refl

module _ (sites rules : List ℕ) where
  free_snoc : (slot : ℕ) (p : List ℕ) (k : ℕ) → free sites slot (p ++ (k ∷ [])) ≡ free sites slot p && not (eqb (site_slot sites k) slot)
  unfolding free
  free_snoc slot [] k = and-true (not (eqb (site_slot sites k) slot))
  free_snoc slot (x ∷ p) k = ap (λ (t : Bool). not (eqb (site_slot sites x) slot) && t) (free_snoc slot p k) ∙ sym (and_assoc (not (eqb (site_slot sites x) slot)) (free sites slot p) (not (eqb (site_slot sites k) slot)))

  uses-snoc : (rule : ℕ) (p : List ℕ) (k : ℕ) → uses sites rule (p ++ (k ∷ [])) ≡ uses sites rule p + bit (eqb (site_rule sites k) rule)
  unfolding uses
  uses-snoc rule [] k = add-zero (bit (eqb (site_rule sites k) rule)) ∙ sym (zero-add (bit (eqb (site_rule sites k) rule)))
  uses-snoc rule (x ∷ p) k = let ih : uses sites rule (p ++ (k ∷ [])) ≡ uses sites rule p + bit (eqb (site_rule sites k) rule) = uses-snoc rule p k in omega arith

  once-snoc : (p : List ℕ) (k : ℕ) → slots_once sites (p ++ (k ∷ [])) ≡ slots_once sites p && free sites (site_slot sites k) p
  unfolding slots_once free
  once-snoc [] k = refl
  once-snoc (x ∷ p) k =
      ap (λ (t : Bool). t && slots_once sites (p ++ (k ∷ []))) (free_snoc (site_slot sites x) p k ∙ ap (λ (t : Bool). free sites (site_slot sites x) p && not t) (eqb-sym (site_slot sites k) (site_slot sites x)))
      ∙ ap (λ (t : Bool). (free sites (site_slot sites x) p && not (eqb (site_slot sites x) (site_slot sites k))) && t) (once-snoc p k)
      ∙ swap (free sites (site_slot sites x) p) (not (eqb (site_slot sites x) (site_slot sites k))) (slots_once sites p) (free sites (site_slot sites k) p)

  -- the rule of k has room after p
  room : List ℕ → ℕ → Bool
  room p k = ltb (uses sites (site_rule sites k) p) (limit_at rules (site_rule sites k))

  in_snoc : (whole q : List ℕ) (k : ℕ) → in_limits sites rules whole (q ++ (k ∷ [])) ≡ in_limits sites rules whole q && leb (uses sites (site_rule sites k) whole) (limit_at rules (site_rule sites k))
  unfolding in_limits
  in_snoc whole [] k = and-true (leb (uses sites (site_rule sites k) whole) (limit_at rules (site_rule sites k)))
  in_snoc whole (x ∷ q) k = ap (λ (t : Bool). leb (uses sites (site_rule sites x) whole) (limit_at rules (site_rule sites x)) && t) (in_snoc whole q k) ∙ sym (and_assoc (leb (uses sites (site_rule sites x) whole) (limit_at rules (site_rule sites x))) (in_limits sites rules whole q) (leb (uses sites (site_rule sites k) whole) (limit_at rules (site_rule sites k))))

  -- one place more leaves the test on another place as it is, if its rule has room
  leb-same : (p : List ℕ) (k x : ℕ) → room p k ≡ true → leb (uses sites (site_rule sites x) (p ++ (k ∷ []))) (limit_at rules (site_rule sites x)) ≡ leb (uses sites (site_rule sites x) p) (limit_at rules (site_rule sites x))
  unfolding room
  leb-same p k x h = go (eqb (site_rule sites k) (site_rule sites x)) refl
    where
      go : (b : Bool) → eqb (site_rule sites k) (site_rule sites x) ≡ b → leb (uses sites (site_rule sites x) (p ++ (k ∷ []))) (limit_at rules (site_rule sites x)) ≡ leb (uses sites (site_rule sites x) p) (limit_at rules (site_rule sites x))
      go false e = ap (λ (z : ℕ). leb z (limit_at rules (site_rule sites x))) (uses-snoc (site_rule sites x) p k ∙ ap (λ (t : Bool). uses sites (site_rule sites x) p + bit t) e ∙ add-zero (uses sites (site_rule sites x) p))
      go true e =
          let f : site_rule sites k ≡ site_rule sites x = eqb-true (site_rule sites k) (site_rule sites x) e in
          let l : uses sites (site_rule sites x) p < limit_at rules (site_rule sites x) = ltb-true (uses sites (site_rule sites x) p) (limit_at rules (site_rule sites x)) (subst (λ (z : ℕ). ltb (uses sites z p) (limit_at rules z) ≡ true) f h) in
          let u : uses sites (site_rule sites x) (p ++ (k ∷ [])) ≡ uses sites (site_rule sites x) p + 1 = uses-snoc (site_rule sites x) p k ∙ ap (λ (t : Bool). uses sites (site_rule sites x) p + bit t) e in
          le-leb (uses sites (site_rule sites x) (p ++ (k ∷ []))) (limit_at rules (site_rule sites x)) (omega arith) ∙ sym (le-leb (uses sites (site_rule sites x) p) (limit_at rules (site_rule sites x)) (omega arith))

  in_same : (p q : List ℕ) (k : ℕ) → room p k ≡ true → in_limits sites rules (p ++ (k ∷ [])) q ≡ in_limits sites rules p q
  unfolding in_limits
  in_same p [] k h = refl
  in_same p (x ∷ q) k h = rw (leb-same p k x h, in_same p q k h)

  within-snoc : (p : List ℕ) (k : ℕ) → in_limits sites rules (p ++ (k ∷ [])) (p ++ (k ∷ [])) ≡ in_limits sites rules p p && room p k
  unfolding room
  within-snoc p k = in_snoc (p ++ (k ∷ [])) p k ∙ go (room p k) refl
    where
      r : ℕ
      r = site_rule sites k

      u : uses sites r (p ++ (k ∷ [])) ≡ uses sites r p + 1
      u = uses-snoc r p k ∙ ap (λ (t : Bool). uses sites r p + bit t) (eq-eqb r r refl)

      go : (b : Bool) → room p k ≡ b → in_limits sites rules (p ++ (k ∷ [])) p && leb (uses sites r (p ++ (k ∷ []))) (limit_at rules r) ≡ in_limits sites rules p p && b
      go true h =
          let l : uses sites r p < limit_at rules r = ltb-true (uses sites r p) (limit_at rules r) h in
          let g : leb (uses sites r (p ++ (k ∷ []))) (limit_at rules r) ≡ true = le-leb (uses sites r (p ++ (k ∷ []))) (limit_at rules r) (omega (arith, u)) in
          rw (g, in_same p p k h)
      go false h =
          let l : limit_at rules r ≤ uses sites r p = ltb-false (uses sites r p) (limit_at rules r) h in
          let g : leb (uses sites r (p ++ (k ∷ []))) (limit_at rules r) ≡ false = lt-leb (uses sites r (p ++ (k ∷ []))) (limit_at rules r) (omega (arith, u)) in
          ap (λ (t : Bool). in_limits sites rules (p ++ (k ∷ [])) p && t) g ∙ and-false (in_limits sites rules (p ++ (k ∷ [])) p) ∙ sym (and-false (in_limits sites rules p p))

  -- ---- the laws
  pub passes_none : packed_passes sites rules [] ≡ true
  unfolding packed_passes slots_once in_limits
  passes_none = refl

  pub passes-snoc : (p : List ℕ) (k : ℕ) → packed_passes sites rules (p ++ (k ∷ [])) ≡ packed_passes sites rules p && may_join sites rules p k
  unfolding packed_passes may_join room
  passes-snoc p k =
      ap (λ (t : Bool). t && in_limits sites rules (p ++ (k ∷ [])) (p ++ (k ∷ []))) (once-snoc p k)
      ∙ ap (λ (t : Bool). (slots_once sites p && free sites (site_slot sites k) p) && t) (within-snoc p k)
      ∙ swap (slots_once sites p) (free sites (site_slot sites k) p) (in_limits sites rules p p) (room p k)

  -- being bad is inherited
  pub bad_append : (p q : List ℕ) → packed_passes sites rules p ≡ false → packed_passes sites rules (p ++ q) ≡ false
  bad_append p [] h = ap (packed_passes sites rules) (append-nil p) ∙ h
  bad_append p (k ∷ q) h =
      ap (packed_passes sites rules) (sym (append_assoc p (k ∷ []) q))
      ∙ bad_append (p ++ (k ∷ [])) q (passes-snoc p k ∙ ap (λ (t : Bool). t && may_join sites rules p k) h)

  pub bad_begin : (e : ℕ) (c d : List ℕ) → packed_passes sites rules (take e c) ≡ false → take e d ≡ take e c → packed_passes sites rules d ≡ false
  bad_begin e c d h g = ap (packed_passes sites rules) (sym (take-append-drop e d)) ∙ bad_append (take e d) (drop e d) (ap (packed_passes sites rules) g ∙ h)

  pub join_more : (c : List ℕ) (j : ℕ) → j < length c → packed_passes sites rules (take j c) ≡ true → packed_passes sites rules (take (suc j) c) ≡ may_join sites rules (take j c) (get_or c j 0)
  join_more c j h g = ap (packed_passes sites rules) (take-suc c j 0 h) ∙ passes-snoc (take j c) (get_or c j 0) ∙ ap (λ (t : Bool). t && may_join sites rules (take j c) (get_or c j 0)) g
