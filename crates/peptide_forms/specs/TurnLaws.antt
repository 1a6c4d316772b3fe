-- What the loops over a choice go by. Assumes nothing.
use Rattle.std.specs.Prelude.{ℕ, suc, ◌+◌, ◌/◌, ◌%◌, ◌≤◌, ◌<◌, ◌≡◌, refl, List, [], ◌∷◌, Bool, true, false, not, ◌&&◌, length, get_or, take, drop, ltb, eqb}
use Rattle.std.proofs.Common.{sym, ap, ◌∙◌, subst, true≢false, arith, add-zero, zero-add, add-one, drop_of_length-le, drop-cons, take_all, get_or-take, take-take, length-take-le}
use Rattle.std.proofs.Math.Bool.{and-true, and_assoc}
use Rattle.lists.specs.Lists.{In, bit}
use Rattle.peptide_choices.specs.KeepLaws.{MayStepOver, skipped_never}
use Rattle.peptide_choices.specs.PruneLaws.{Cut}
use Rattle.peptide_forms.specs.Passing.{free, packed_passes, site_rule, site_slot, uses}
use Rattle.peptide_forms.specs.PassingLaws.{bad_begin, join_more, may_join, passes_none}
use Rattle.peptide_slots.specs.Sites.{limit_at}

-- of the places xs, the first i are looked at
pub record UsesTallied (sites : List ℕ) (slot rule : ℕ) (xs : List ℕ) (i : ℕ) (f : Bool) (u : ℕ) : Type 0 where
  pub no : f && free sites slot (drop i xs) ≡ free sites slot xs
  pub many : u + uses sites rule (drop i xs) ≡ uses sites rule xs
  pub few : u ≤ i

pub uses_tallied_none : (sites : List ℕ) (slot rule : ℕ) (xs : List ℕ) → UsesTallied sites slot rule xs 0 true 0
uses_tallied_none sites slot rule xs = record { no = refl; many = zero-add (uses sites rule xs); few = omega arith }

pub uses_tallied_more : (sites : List ℕ) (slot rule : ℕ) (xs : List ℕ) (i : ℕ) (f : Bool) (u v : ℕ) → i < length xs → v ≡ bit (eqb (site_rule sites (get_or xs i 0)) rule) → v ≤ 1 → UsesTallied sites slot rule xs i f u
    → UsesTallied sites slot rule xs (i + 1) (f && not (eqb (site_slot sites (get_or xs i 0)) slot)) (u + v)
unfolding free uses
uses_tallied_more sites slot rule xs i f u v h e l s =
    let d : drop i xs ≡ get_or xs i 0 ∷ drop (i + 1) xs = drop-cons xs i 0 h ∙ ap (λ (z : ℕ). get_or xs i 0 ∷ drop z xs) (sym (add-one i)) in
    let a : u + uses sites rule (drop i xs) ≡ uses sites rule xs = s.many in
    let b : uses sites rule (drop i xs) ≡ v + uses sites rule (drop (i + 1) xs) = ap (uses sites rule) d ∙ ap (λ (z : ℕ). z + uses sites rule (drop (i + 1) xs)) (sym e) in
    record {
      no = and_assoc f (not (eqb (site_slot sites (get_or xs i 0)) slot)) (free sites slot (drop (i + 1) xs)) ∙ ap (λ (z : List ℕ). f && free sites slot z) (sym d) ∙ s.no;
      many = omega arith;
      few = omega (arith, s.few);
    }

pub uses_tallied_turn : (sites : List ℕ) (slot rule : ℕ) (xs : List ℕ) (j i : ℕ) (f : Bool) (u site v : ℕ) → j ≤ length xs → i < j → site ≡ get_or sites (get_or xs i 0) 0 → v ≡ bit (eqb (site / 128) rule) → v ≤ 1 → UsesTallied sites slot rule (take j xs) i f u
    → UsesTallied sites slot rule (take j xs) (i + 1) (f && not (eqb (site % 128) slot)) (u + v)
uses_tallied_turn sites slot rule xs j i f u site v l h e w b s =
    let n : length (take j xs) ≡ j = length-take-le j xs l in
    let g : site ≡ get_or sites (get_or (take j xs) i 0) 0 = e ∙ ap (λ (z : ℕ). get_or sites z 0) (sym (get_or-take j xs i 0 h)) in
    subst (λ (z : ℕ). UsesTallied sites slot rule (take j xs) (i + 1) (f && not (eqb (z % 128) slot)) (u + v)) (sym g)
    (uses_tallied_more sites slot rule (take j xs) i f u v (omega arith) (w ∙ ap (λ (z : ℕ). bit (eqb (z / 128) rule)) g) b s)

-- all are looked at
pub uses_tallied_all : (sites rules : List ℕ) (k : ℕ) (xs : List ℕ) (j : ℕ) (f : Bool) (u : ℕ) → length xs ≤ j → UsesTallied sites (site_slot sites k) (site_rule sites k) xs j f u → f && ltb u (limit_at rules (site_rule sites k)) ≡ may_join sites rules xs k
unfolding may_join free uses
uses_tallied_all sites rules k xs j f u h s =
    let d : drop j xs ≡ [] = drop_of_length-le xs h in
    let a : f ≡ free sites (site_slot sites k) xs = sym (and-true f) ∙ ap (λ (z : List ℕ). f && free sites (site_slot sites k) z) (sym d) ∙ s.no in
    let b : u ≡ uses sites (site_rule sites k) xs = sym (add-zero u) ∙ ap (λ (z : List ℕ). u + uses sites (site_rule sites k) z) (sym d) ∙ s.many in
    rw (a, b)

pub uses_tallied_joins : (sites rules xs : List ℕ) (k j : ℕ) (f : Bool) (u site lim : ℕ) → j ≤ length xs → site ≡ get_or sites k 0 → lim ≡ limit_at rules (site / 128) → UsesTallied sites (site % 128) (site / 128) (take j xs) j f u
    → f && ltb u lim ≡ may_join sites rules (take j xs) k
uses_tallied_joins sites rules xs k j f u site lim l e w s =
    let n : length (take j xs) ≡ j = length-take-le j xs l in
    let t : UsesTallied sites (site_slot sites k) (site_rule sites k) (take j xs) j f u = subst (λ (z : ℕ). UsesTallied sites (z % 128) (z / 128) (take j xs) j f u) e s in
    ap (λ (z : ℕ). f && ltb u z) (w ∙ ap (λ (z : ℕ). limit_at rules (z / 128)) e) ∙ uses_tallied_all sites rules k (take j xs) j f u (omega arith) t

-- ---- how far a choice goes well
pub record FineUpTo (sites rules c : List ℕ) (g : ℕ) : Type 0 where
  pub within : g ≤ length c
  pub good : packed_passes sites rules (take g c) ≡ true
  pub bad : g < length c → packed_passes sites rules (take (suc g) c) ≡ false

pub reached-sound : {sites rules c : List ℕ} {g : ℕ} → FineUpTo sites rules c g → MayStepOver (packed_passes sites rules) c g
reached-sound {sites} {rules} {c} {g} r = record { whole = whole; bad = bad }
  where
    short : packed_passes sites rules c ≡ false → length c ≤ g → ⊥
    short h k =
        let t : packed_passes sites rules c ≡ true = ap (packed_passes sites rules) (sym (take_all g c k)) ∙ r.good in
        true≢false (sym t ∙ h)

    long : packed_passes sites rules c ≡ true → g < length c → ⊥
    long h k =
        let t : packed_passes sites rules c ≡ false = bad_begin sites rules (suc g) c c (r.bad k) refl in
        true≢false (sym h ∙ t)

    whole : packed_passes sites rules c ≡ true → length c ≤ suc g
    whole h = let l : g < length c → ⊥ = long h in omega arith

    bad : packed_passes sites rules c ≡ false → (d : List ℕ) → take (suc g) d ≡ take (suc g) c → packed_passes sites rules d ≡ false
    bad h d e = let l : length c ≤ g → ⊥ = short h in bad_begin sites rules (suc g) c d (r.bad (omega arith)) e

pub reached-whole : {sites rules c : List ℕ} {g : ℕ} → FineUpTo sites rules c g → g ≡ length c → packed_passes sites rules c ≡ true
reached-whole {sites} {rules} {c} {g} r e = ap (packed_passes sites rules) (sym (take_all g c (omega arith))) ∙ r.good

pub reached-part : {sites rules c : List ℕ} {g : ℕ} → FineUpTo sites rules c g → g < length c → packed_passes sites rules c ≡ false
reached-part {sites} {rules} {c} {g} r h = bad_begin sites rules (suc g) c c (r.bad h) refl

-- what the counter skips never passes: with c go all that stand before its successor, and none of them passes
pub skipped_fail : (sites rules c : List ℕ) (g : ℕ) → FineUpTo sites rules c g → packed_passes sites rules c ≡ false → {m : ℕ} (xs : List (List ℕ)) (k : Cut m (suc g) c xs) (d : List ℕ) → In d (c ∷ k.out) → packed_passes sites rules d ≡ false
skipped_fail sites rules c g r e xs k d i = skipped_never (packed_passes sites rules) g xs (reached-sound r) e k d i

-- the loop over the first n of xs
abbrev pub PassesTo : List ℕ → List ℕ → List ℕ → ℕ → Type 0
PassesTo sites rules c j = packed_passes sites rules (take j c) ≡ true

pub passes-to-none : (sites rules c : List ℕ) → PassesTo sites rules c 0
passes-to-none sites rules c = passes_none sites rules

module _ (sites rules xs : List ℕ) (n j : ℕ) (l : n ≤ length xs) (h : j < n) (g : PassesTo sites rules (take n xs) j) where
  len : length (take n xs) ≡ n
  len = length-take-le n xs l

  at_j : may_join sites rules (take j (take n xs)) (get_or (take n xs) j 0) ≡ may_join sites rules (take j xs) (get_or xs j 0)
  at_j = rw (take-take j n xs (omega arith), get_or-take n xs j 0 h)

  pub passes-to-more : may_join sites rules (take j xs) (get_or xs j 0) ≡ true → PassesTo sites rules (take n xs) (j + 1)
  passes-to-more e = ap (λ (z : ℕ). packed_passes sites rules (take z (take n xs))) (add-one j) ∙ join_more sites rules (take n xs) j (omega (arith, len)) g ∙ at_j ∙ e

  pub passes-to_stop : may_join sites rules (take j xs) (get_or xs j 0) ≡ false → FineUpTo sites rules (take n xs) j
  passes-to_stop e = record { within = omega (arith, len); good = g; bad = λ k. join_more sites rules (take n xs) j (omega (arith, len)) g ∙ at_j ∙ e }

pub passes-to_end : (sites rules xs : List ℕ) (n j : ℕ) → n ≤ length xs → n ≤ j → j ≤ n → PassesTo sites rules (take n xs) j → FineUpTo sites rules (take n xs) n
passes-to_end sites rules xs n j l h k g =
    let len : length (take n xs) ≡ n = length-take-le n xs l in
    let e : j ≡ n = omega arith in
    record { within = omega (arith, len); good = subst (PassesTo sites rules (take n xs)) e g; bad = λ b. absurd (omega (arith, len)) }
