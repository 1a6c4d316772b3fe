-- The sites of rules that may be used, gathered at the front of the list they stand in. Assumes nothing.
use Rattle.std.specs.Prelude.{ℕ, suc, ◌+◌, ◌≤◌, ◌<◌, ◌≡◌, refl, Bool, true, false, not, List, [], ◌∷◌, ◌++◌, length, get_or, take, drop, set}
use Rattle.std.proofs.Common.{sym, ap, ◌∙◌, subst, append_assoc, append-nil, arith, add-zero, add-one, drop-cons, drop-set-lt, take-suc, take-suc-set}
use Rattle.std.proofs.lemmas.List.Edits.{sets}
use Rattle.peptide_slots.specs.Sites.{if_hit}
use Rattle.peptide_slots.specs.Used.{idle, used}
use Rattle.peptide_slots.specs.WroteLaws.{Wrote, wrote_length, wrote_taken}

-- of the first i sites of old those that may be used stand at the front of new, next of them; past i stands what stood there
pub record UsedFirst (rules old new : List ℕ) (i next : ℕ) : Type 0 where
  pub kept : take next new ≡ used rules (take i old)
  pub rest : drop i new ≡ drop i old
  pub few : next ≤ i
  pub len : length new ≡ length old

used_append : (rules xs ys : List ℕ) → used rules (xs ++ ys) ≡ used rules xs ++ used rules ys
unfolding used
used_append rules [] ys = refl
used_append rules (x ∷ xs) ys = ap (λ (z : List ℕ). if_hit (not (idle rules x)) x ++ z) (used_append rules xs ys) ∙ sym (append_assoc (if_hit (not (idle rules x)) x) (used rules xs) (used rules ys))

used-one : (rules : List ℕ) (x : ℕ) → used rules (x ∷ []) ≡ if_hit (not (idle rules x)) x
unfolding used
used-one rules x = append-nil (if_hit (not (idle rules x)) x)

pub used-first-none : (rules old : List ℕ) → UsedFirst rules old old 0 0
unfolding used
used-first-none rules old = record { kept = refl; rest = refl; few = omega arith; len = refl }

pub used-first-more : (rules old out : List ℕ) (i next : ℕ) (hit : Bool) (site : ℕ) (newer : List ℕ) (after : ℕ) → i < length old → site ≡ get_or out i 0 → hit ≡ not (idle rules site)
    → Wrote out next (if_hit hit site) newer after → UsedFirst rules old out i next → UsedFirst rules old newer (i + 1) after
unfolding if_hit
used-first-more rules old out i next hit site newer after h e f w s =
    let l : length out ≡ length old = s.len in
    let few : next ≤ i = s.few in
    let here : drop i out ≡ get_or out i 0 ∷ drop (suc i) out = drop-cons out i 0 (omega arith) in
    let there : drop i old ≡ get_or old i 0 ∷ drop (suc i) old = drop-cons old i 0 h in
    let both : get_or out i 0 ∷ drop (suc i) out ≡ get_or old i 0 ∷ drop (suc i) old = sym here ∙ s.rest ∙ there in
    let same : site ≡ get_or old i 0 = cc in
    let behind : drop (suc i) out ≡ drop (suc i) old = cc in
    let g = go hit (omega arith) w.is w.next in
    record {
      kept =
          g.0
          ∙ ap (λ (z : List ℕ). z ++ if_hit hit site) s.kept
          ∙ ap (λ (b : Bool). used rules (take i old) ++ if_hit b site) f
          ∙ ap (λ (z : List ℕ). used rules (take i old) ++ z) (sym (used-one rules site))
          ∙ ap (λ (z : ℕ). used rules (take i old) ++ used rules (z ∷ [])) same
          ∙ sym (used_append rules (take i old) (get_or old i 0 ∷ []))
          ∙ ap (used rules) (sym (take-suc old i 0 h))
          ∙ ap (λ (z : ℕ). used rules (take z old)) (sym (add-one i));
      rest =
          g.1
          ∙ ap (λ (z : ℕ). drop z out) (add-one i)
          ∙ behind
          ∙ ap (λ (z : ℕ). drop z old) (sym (add-one i));
      few = g.2;
      len = wrote_length out next (if_hit hit site) newer after w ∙ l;
    }
  where
    go : (b : Bool) → next < length out → newer ≡ sets out next (if_hit b site) → after ≡ next + length (if_hit b site)
        → (take after newer ≡ take next out ++ if_hit b site) × (drop (i + 1) newer ≡ drop (i + 1) out) × (after ≤ i + 1)
    go true k p q =
        let few : next ≤ i = s.few in (
          ap (λ (z : List ℕ). take after z) p ∙ ap (λ (z : ℕ). take z (set out next site)) (q ∙ add-one next) ∙ take-suc-set out next site k,
          ap (drop (i + 1)) p ∙ drop-set-lt (i + 1) out next site (omega arith),
          omega arith,
        )
    go false k p q =
        let few : next ≤ i = s.few in (
          ap (λ (z : List ℕ). take after z) p ∙ ap (λ (z : ℕ). take z out) (q ∙ add-zero next) ∙ sym (append-nil (take next out)),
          ap (drop (i + 1)) p,
          omega arith,
        )

pub used-first-all : (rules old new : List ℕ) (m i next : ℕ) → i ≤ m → m ≤ i → UsedFirst rules old new i next → UsedFirst rules old new m next
used-first-all rules old new m i next a b s = subst (λ (z : ℕ). UsedFirst rules old new z next) (let e : i ≡ m = omega arith in e) s

-- sites written at the front, then sifted
pub used-first_taken : (rules vs old mid new : List ℕ) (m next : ℕ) → length vs ≤ length old → Wrote old 0 vs mid m → UsedFirst rules mid new m next → (next ≤ length vs) × (take next new ≡ used rules vs)
used-first_taken rules vs old mid new m next h w s = (omega (arith, s.few, w.next), s.kept ∙ ap (used rules) (wrote_taken old vs mid m h w))
