-- A site of a rule whose limit is 0 is in no choice that passes: the chosen sites are the same where such sites are left
-- out. Assumes nothing.
use Rattle.std.specs.Prelude.{ℕ, zero, suc, ◌+◌, ◌≤◌, ◌≡◌, Bool, true, false, cond, ◌&&◌, ◌||◌, length, get_or, drop, eqb}
use Rattle.std.proofs.Math.Path.{refl, sym, ap}
use Rattle.std.proofs.Common.{◌∙◌, true≢false, arith, eqb-true, eq-eqb}
use Rattle.std.proofs.Math.Bool.{not, and-false, or-true}
use mathlib.Core.List.{List, [], ◌∷◌, ◌++◌, map, append_assoc, map-append}
use Rattle.std.proofs.Math.Dec.{leb}
use Rattle.std.proofs.lemmas.Bool.{lt-leb}
use Rattle.lists.specs.KeepLaws.{keep-map, keep_append}
use Rattle.lists.specs.InLaws.{keep-alike}
use Rattle.lists.specs.Lists.{keep, bit}
use Rattle.peptide_choices.specs.Choices.{choices_of, by_size}
use Rattle.peptide_choices.specs.KeepLaws.{keep_no}
use Rattle.peptide_slots.specs.Sites.{if_hit, limit_at, rule_of, slot_of}
use Rattle.peptide_slots.specs.Used.{idle, used}
use Rattle.peptide_forms.specs.Enumeration.{up_to_cap, cap_reached}
use Rattle.peptide_forms.specs.Packed.{packed_choices, packed_chosen}
use Rattle.peptide_forms.specs.Passing.{free, in_limits, packed_passes, slots_once, uses}

-- ---- the tests of a choice, on the list of its sites

unfoldable pub free_in : ℕ → List ℕ → Bool
free_in slot [] = true
free_in slot (x ∷ xs) = not (eqb (slot_of x) slot) && free_in slot xs

unfoldable pub uses_in : ℕ → List ℕ → ℕ
uses_in rule [] = 0
uses_in rule (x ∷ xs) = bit (eqb (rule_of x) rule) + uses_in rule xs

unfoldable pub once_in : List ℕ → Bool
unfolding free_in
once_in [] = true
once_in (x ∷ xs) = free_in (slot_of x) xs && once_in xs

unfoldable pub limits_in : List ℕ → List ℕ → List ℕ → Bool
unfolding uses_in
limits_in rules whole [] = true
limits_in rules whole (x ∷ xs) = leb (uses_in (rule_of x) whole) (limit_at rules (rule_of x)) && limits_in rules whole xs

unfoldable pub fine : List ℕ → List ℕ → Bool
unfolding once_in limits_in
fine rules xs = once_in xs && limits_in rules xs xs

module _ (sites rules : List ℕ) where
  free-chosen : (slot : ℕ) (c : List ℕ) → free sites slot c ≡ free_in slot (packed_chosen sites c)
  unfolding free free_in packed_chosen
  free-chosen slot [] = refl
  free-chosen slot (k ∷ c) = ap (λ (t : Bool). not (eqb (slot_of (get_or sites k 0)) slot) && t) (free-chosen slot c)

  uses-chosen : (rule : ℕ) (c : List ℕ) → uses sites rule c ≡ uses_in rule (packed_chosen sites c)
  unfolding uses uses_in packed_chosen
  uses-chosen rule [] = refl
  uses-chosen rule (k ∷ c) = ap (λ (t : ℕ). bit (eqb (rule_of (get_or sites k 0)) rule) + t) (uses-chosen rule c)

  once-chosen : (c : List ℕ) → slots_once sites c ≡ once_in (packed_chosen sites c)
  unfolding slots_once once_in packed_chosen
  once-chosen [] = refl
  once-chosen (k ∷ c) =
      ap (λ (t : Bool). t && slots_once sites c) (free-chosen (slot_of (get_or sites k 0)) c)
      ∙ ap (λ (t : Bool). free_in (slot_of (get_or sites k 0)) (packed_chosen sites c) && t) (once-chosen c)

  limits_chosen : (whole c : List ℕ) → in_limits sites rules whole c ≡ limits_in rules (packed_chosen sites whole) (packed_chosen sites c)
  unfolding in_limits limits_in packed_chosen
  limits_chosen whole [] = refl
  limits_chosen whole (k ∷ c) =
      ap (λ (t : ℕ). leb t (limit_at rules (rule_of (get_or sites k 0))) && in_limits sites rules whole c) (uses-chosen (rule_of (get_or sites k 0)) whole)
      ∙ ap (λ (t : Bool). leb (uses_in (rule_of (get_or sites k 0)) (packed_chosen sites whole)) (limit_at rules (rule_of (get_or sites k 0))) && t) (limits_chosen whole c)

  -- whether a choice passes is seen by its sites
  pub passes-chosen : (c : List ℕ) → packed_passes sites rules c ≡ fine rules (packed_chosen sites c)
  unfolding packed_passes fine
  passes-chosen c =
      ap (λ (t : Bool). t && in_limits sites rules c c) (once-chosen c)
      ∙ ap (λ (t : Bool). once_in (packed_chosen sites c) && t) (limits_chosen c c)

-- ---- a choice with a site of a rule whose limit is 0 does not pass

unfoldable has_idle : List ℕ → List ℕ → Bool
has_idle rules [] = false
has_idle rules (x ∷ xs) = idle rules x || has_idle rules xs

uses-some : (p : List ℕ) (x : ℕ) (c : List ℕ) → 1 ≤ uses_in (rule_of x) (p ++ (x ∷ c))
unfolding uses_in
uses-some [] x c = let e : bit (eqb (rule_of x) (rule_of x)) ≡ 1 = ap bit (eq-eqb (rule_of x) (rule_of x) refl) in omega arith
uses-some (y ∷ p) x c = let r : 1 ≤ uses_in (rule_of x) (p ++ (x ∷ c)) = uses-some p x c in omega arith

limits_bad : (rules p c : List ℕ) → has_idle rules c ≡ true → limits_in rules (p ++ c) c ≡ false
unfolding has_idle limits_in
limits_bad rules p [] h = absurd (true≢false (sym h))
limits_bad rules p (x ∷ c) h = go (idle rules x) refl h (λ q. ap (λ (z : List ℕ). limits_in rules z c) (sym (append_assoc p (x ∷ []) c)) ∙ limits_bad rules (p ++ (x ∷ [])) c q)
  where
    go : (b : Bool) → idle rules x ≡ b → b || has_idle rules c ≡ true → (has_idle rules c ≡ true → limits_in rules (p ++ (x ∷ c)) c ≡ false)
        → leb (uses_in (rule_of x) (p ++ (x ∷ c))) (limit_at rules (rule_of x)) && limits_in rules (p ++ (x ∷ c)) c ≡ false
    go true e q r =
        let l : limit_at rules (rule_of x) ≡ 0 = eqb-true (limit_at rules (rule_of x)) 0 e in
        let s : 1 ≤ uses_in (rule_of x) (p ++ (x ∷ c)) = uses-some p x c in
        ap (λ (t : Bool). t && limits_in rules (p ++ (x ∷ c)) c) (lt-leb (uses_in (rule_of x) (p ++ (x ∷ c))) (limit_at rules (rule_of x)) (omega arith))
    go false e q r =
        ap (λ (t : Bool). leb (uses_in (rule_of x) (p ++ (x ∷ c))) (limit_at rules (rule_of x)) && t) (r q)
        ∙ and-false (leb (uses_in (rule_of x) (p ++ (x ∷ c))) (limit_at rules (rule_of x)))

fine_bad : (rules c : List ℕ) → has_idle rules c ≡ true → fine rules c ≡ false
unfolding fine
fine_bad rules c h = ap (λ (t : Bool). once_in c && t) (limits_bad rules [] c h) ∙ and-false (once_in c)

-- ---- lists

accepted-map : (f : List ℕ → List ℕ) (cap k : ℕ) (xs : List (List ℕ)) → map f (up_to_cap cap k xs) ≡ up_to_cap cap k (map f xs)
unfolding up_to_cap
accepted-map f cap k [] = refl
accepted-map f cap k (x ∷ xs) = go (cap_reached cap k) (accepted-map f cap (suc k) xs)
  where
    go : (b : Bool) → map f (up_to_cap cap (suc k) xs) ≡ up_to_cap cap (suc k) (map f xs) → map f (cond b [] (x ∷ up_to_cap cap (suc k) xs)) ≡ cond b [] (f x ∷ up_to_cap cap (suc k) (map f xs))
    go true r = refl
    go false r = ap (λ (z : List (List ℕ)). f x ∷ z) r

-- ---- the lists of n of some sites, in the order of the choices

unfoldable picks : ℕ → List ℕ → List (List ℕ)
picks zero s = [] ∷ []
picks (suc n) [] = []
picks (suc n) (x ∷ s) = map (λ (c : List ℕ). x ∷ c) (picks n s) ++ picks (suc n) s

unfoldable picks_by : List ℕ → ℕ → ℕ → List (List ℕ)
unfolding picks
picks_by s n zero = []
picks_by s n (suc k) = picks n s ++ picks_by s (suc n) k

drop-first : (s : List ℕ) (lo x : ℕ) (t : List ℕ) → drop lo s ≡ x ∷ t → (get_or s lo 0 ≡ x) × (drop (suc lo) s ≡ t)
drop-first [] zero x t e = absurd (omega (arith, ap length e))
drop-first [] (suc lo) x t e = absurd (omega (arith, ap length e))
drop-first (y ∷ s) zero x t e = (cc, cc)
drop-first (y ∷ s) (suc lo) x t e = drop-first s lo x t e

under : (s : List ℕ) (lo x : ℕ) → get_or s lo 0 ≡ x → (cs : List (List ℕ)) → map (packed_chosen s) (map (λ (c : List ℕ). lo ∷ c) cs) ≡ map (λ (c : List ℕ). x ∷ c) (map (packed_chosen s) cs)
unfolding packed_chosen
under s lo x e [] = refl
under s lo x e (c ∷ cs) =
    ap (λ (y : ℕ). (y ∷ packed_chosen s c) ∷ map (packed_chosen s) (map (λ (d : List ℕ). lo ∷ d) cs)) e
    ∙ ap (λ (z : List (List ℕ)). (x ∷ packed_chosen s c) ∷ z) (under s lo x e cs)

chosen-picks : (s : List ℕ) (n : ℕ) (t : List ℕ) (lo : ℕ) → drop lo s ≡ t → map (packed_chosen s) (choices_of n (length t) lo) ≡ picks n t
unfolding choices_of picks packed_chosen
chosen-picks s zero t lo e = refl
chosen-picks s (suc n) [] lo e = refl
chosen-picks s (suc n) (x ∷ t) lo e =
    let d = drop-first s lo x t e in
    map-append (packed_chosen s) (map (λ (c : List ℕ). lo ∷ c) (choices_of n (length t) (suc lo))) (choices_of (suc n) (length t) (suc lo))
    ∙ ap (λ (z : List (List ℕ)). z ++ map (packed_chosen s) (choices_of (suc n) (length t) (suc lo))) (under s lo x d.0 (choices_of n (length t) (suc lo)))
    ∙ ap (λ (z : List (List ℕ)). map (λ (c : List ℕ). x ∷ c) z ++ map (packed_chosen s) (choices_of (suc n) (length t) (suc lo))) (chosen-picks s n t (suc lo) d.1)
    ∙ ap (λ (z : List (List ℕ)). map (λ (c : List ℕ). x ∷ c) (picks n t) ++ z) (chosen-picks s (suc n) t (suc lo) d.1)

chosen-sizes : (s : List ℕ) (n k : ℕ) → map (packed_chosen s) (by_size (length s) n k) ≡ picks_by s n k
unfolding by_size picks_by
chosen-sizes s n zero = refl
chosen-sizes s n (suc k) =
    map-append (packed_chosen s) (choices_of n (length s) 0) (by_size (length s) (suc n) k)
    ∙ ap (λ (z : List (List ℕ)). z ++ map (packed_chosen s) (by_size (length s) (suc n) k)) (chosen-picks s n s 0 refl)
    ∙ ap (λ (z : List (List ℕ)). picks n s ++ z) (chosen-sizes s (suc n) k)

-- the sites of the choices that pass are the lists of sites that are fine
passed-picks : (sites rules : List ℕ) (n k : ℕ) → map (packed_chosen sites) (keep (packed_passes sites rules) (by_size (length sites) n k)) ≡ keep (fine rules) (picks_by sites n k)
passed-picks sites rules n k =
    ap (map (packed_chosen sites)) (keep-alike (packed_passes sites rules) (λ (c : List ℕ). fine rules (packed_chosen sites c)) (by_size (length sites) n k) (λ c i. passes-chosen sites rules c))
    ∙ sym (keep-map (packed_chosen sites) (fine rules) (by_size (length sites) n k))
    ∙ ap (keep (fine rules)) (chosen-sizes sites n k)

-- ---- those sites left out

all_out : (ok : List ℕ → Bool) (x : ℕ) (cs : List (List ℕ)) → ((c : List ℕ) → ok (x ∷ c) ≡ false) → keep ok (map (λ (c : List ℕ). x ∷ c) cs) ≡ []
all_out ok x [] h = refl
all_out ok x (c ∷ cs) h = keep_no ok (x ∷ c) (map (λ (d : List ℕ). x ∷ d) cs) (h c) ∙ all_out ok x cs h

idle_out : (rules : List ℕ) (n : ℕ) (s : List ℕ) (ok : List ℕ → Bool) → ((c : List ℕ) → has_idle rules c ≡ true → ok c ≡ false) → keep ok (picks n s) ≡ keep ok (picks n (used rules s))
unfolding picks used has_idle if_hit
idle_out rules zero s ok h = refl
idle_out rules (suc n) [] ok h = refl
idle_out rules (suc n) (x ∷ s) ok h =
    keep_append ok (map (λ (c : List ℕ). x ∷ c) (picks n s)) (picks (suc n) s)
    ∙ go (idle rules x) refl
    (idle_out rules n s (λ (c : List ℕ). ok (x ∷ c)) (λ c e. h (x ∷ c) (ap (λ (b : Bool). idle rules x || b) e ∙ or-true (idle rules x))))
    (idle_out rules (suc n) s ok h)
  where
    go : (b : Bool) → idle rules x ≡ b
        → keep (λ (c : List ℕ). ok (x ∷ c)) (picks n s) ≡ keep (λ (c : List ℕ). ok (x ∷ c)) (picks n (used rules s))
        → keep ok (picks (suc n) s) ≡ keep ok (picks (suc n) (used rules s))
        → keep ok (map (λ (c : List ℕ). x ∷ c) (picks n s)) ++ keep ok (picks (suc n) s) ≡ keep ok (picks (suc n) (if_hit (not b) x ++ used rules s))
    go true e i j =
        ap (λ (z : List (List ℕ)). z ++ keep ok (picks (suc n) s)) (all_out ok x (picks n s) (λ c. h (x ∷ c) (ap (λ (b : Bool). b || has_idle rules c) e)))
        ∙ j
    go false e i j =
        ap (λ (z : List (List ℕ)). z ++ keep ok (picks (suc n) s))
        (keep-map (λ (c : List ℕ). x ∷ c) ok (picks n s)
        ∙ ap (map (λ (c : List ℕ). x ∷ c)) i
        ∙ sym (keep-map (λ (c : List ℕ). x ∷ c) ok (picks n (used rules s))))
        ∙ ap (λ (z : List (List ℕ)). keep ok (map (λ (c : List ℕ). x ∷ c) (picks n (used rules s))) ++ z) j
        ∙ sym (keep_append ok (map (λ (c : List ℕ). x ∷ c) (picks n (used rules s))) (picks (suc n) (used rules s)))

sizes_out : (rules s : List ℕ) (n k : ℕ) → keep (fine rules) (picks_by s n k) ≡ keep (fine rules) (picks_by (used rules s) n k)
unfolding picks_by
sizes_out rules s n zero = refl
sizes_out rules s n (suc k) =
    keep_append (fine rules) (picks n s) (picks_by s (suc n) k)
    ∙ ap (λ (z : List (List ℕ)). z ++ keep (fine rules) (picks_by s (suc n) k)) (idle_out rules n s (fine rules) (fine_bad rules))
    ∙ ap (λ (z : List (List ℕ)). keep (fine rules) (picks n (used rules s)) ++ z) (sizes_out rules s (suc n) k)
    ∙ sym (keep_append (fine rules) (picks n (used rules s)) (picks_by (used rules s) (suc n) k))

-- ---- the laws

module _ (sites rules : List ℕ) where
  -- the choices that pass have the same sites, in the same order, where the sites of rules of limit 0 are left out
  pub no_zero : (n k : ℕ) → map (packed_chosen sites) (keep (packed_passes sites rules) (by_size (length sites) n k)) ≡ map (packed_chosen (used rules sites)) (keep (packed_passes (used rules sites) rules) (by_size (length (used rules sites)) n k))
  no_zero n k = passed-picks sites rules n k ∙ sizes_out rules sites n k ∙ sym (passed-picks (used rules sites) rules n k)

  -- and so have those that make forms
  pub choices-used : (limit cap : ℕ) → map (packed_chosen sites) (packed_choices sites rules limit cap) ≡ map (packed_chosen (used rules sites)) (packed_choices (used rules sites) rules limit cap)
  unfolding packed_choices packed_chosen
  choices-used limit cap =
      ap (λ (z : List (List ℕ)). [] ∷ z)
      (accepted-map (packed_chosen sites) cap 1 (keep (packed_passes sites rules) (by_size (length sites) 1 limit))
      ∙ ap (up_to_cap cap 1) (no_zero 1 limit)
      ∙ sym (accepted-map (packed_chosen (used rules sites)) cap 1 (keep (packed_passes (used rules sites) rules) (by_size (length (used rules sites)) 1 limit))))
