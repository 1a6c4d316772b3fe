-- From windows of n sites to those of n + 1. Assumes nothing.
use Rattle.std.specs.Prelude.{ℕ, zero, suc, min, ◌+◌, ◌≤◌, ◌<◌, ◌≡◌, refl, ◌⊎◌, List, [], ◌∷◌, get_or}
use Rattle.std.proofs.Common.{sym, ap, ◌∙◌, inl, inr, arith, add-one}
use Rattle.lists.specs.Tests.{same?, below?}
use Rattle.enzyme_windows.specs.Shared.{SameWindow, Named, shared_sites, SharedUpTo}
use Rattle.enzyme_windows.specs.NameLaws.{window_on, window_back}
use Rattle.enzyme_windows.proofs.TableLaws.{shared-up-more, shared-up-same}
use Rattle.enzyme_rows.specs.Steps.{AmongFirst, RunsRanked, goes_on, Kept}
use Rattle.enzyme_runs.specs.RunLaws.{alike?}
use Rattle.enzyme_runs.specs.StepLaws.{ranks_same, ranks_back, goes_on_lem, went_on, ranked_again, ranked_first, ranked_rest}
use Rattle.enzyme_levels.specs.Levels.{TextsPlaced, SitesReady, LevelKnown, LevelRanked}
use Rattle.enzyme_levels.specs.ReadyLaws.{ready_arranged}

pub window_flip : (ts : List (List ℕ)) (n p j : ℕ) → SameWindow ts n p j → SameWindow ts n j p
window_flip ts n p j w = record { first = w.second; second = w.first; equal = sym w.equal }

-- whether one of the first g holds
look : (P : ℕ → Type 0) → ((p : ℕ) → P p ⊎ (P p → ⊥)) → (g : ℕ) → ((p : ℕ) × (p < g) × P p) ⊎ ((p : ℕ) → p < g → P p → ⊥)
look P d zero = inr (λ p h e. omega arith)
look P d (suc g) = go (look P d g) (d g)
  where
    go : ((p : ℕ) × (p < g) × P p) ⊎ ((p : ℕ) → p < g → P p → ⊥) → P g ⊎ (P g → ⊥) → ((p : ℕ) × (p < suc g) × P p) ⊎ ((p : ℕ) → p < suc g → P p → ⊥)
    go (inl a) b = inl (a.0, omega (arith, a.1), a.2)
    go (inr a) (inl b) = inl (g, omega arith, b)
    go (inr a) (inr b) = inr (λ p h e. last p h e (below? p g))
      where
        last : (p : ℕ) → p < suc g → P p → (p < g) ⊎ (g ≤ p) → ⊥
        last p h e (inl l) = a p l e
        last p h e (inr l) = let z : p ≡ g = omega arith in b (rw z at e)

pub has? : (w : List ℕ) (g z : ℕ) → AmongFirst w g z ⊎ (AmongFirst w g z → ⊥)
has? w g z = go (look (λ (p : ℕ). get_or w p 0 ≡ z) (λ p. same? (get_or w p 0) z) g)
  where
    go : ((p : ℕ) × (p < g) × (get_or w p 0 ≡ z)) ⊎ ((p : ℕ) → p < g → get_or w p 0 ≡ z → ⊥) → AmongFirst w g z ⊎ (AmongFirst w g z → ⊥)
    go (inl a) = inl a
    go (inr a) = inr (λ h. a h.0 h.1 h.2)

-- whether an earlier one of the first g has the text of z
earlier? : (text : ℕ → List ℕ) (w : List ℕ) (g z : ℕ) → ((v : ℕ) × AmongFirst w g v × (v < z) × (text v ≡ text z)) ⊎ ((v : ℕ) → AmongFirst w g v → v < z → text v ≡ text z → ⊥)
earlier? text w g z = go (look (λ (p : ℕ). (get_or w p 0 < z) × (text (get_or w p 0) ≡ text z)) test g)
  where
    test : (p : ℕ) → ((get_or w p 0 < z) × (text (get_or w p 0) ≡ text z)) ⊎ ((get_or w p 0 < z) × (text (get_or w p 0) ≡ text z) → ⊥)
    test p = pair (below? (get_or w p 0) z) (alike? (text (get_or w p 0)) (text z))
      where
        pair : (get_or w p 0 < z) ⊎ (z ≤ get_or w p 0) → (text (get_or w p 0) ≡ text z) ⊎ (text (get_or w p 0) ≡ text z → ⊥)
            → ((get_or w p 0 < z) × (text (get_or w p 0) ≡ text z)) ⊎ ((get_or w p 0 < z) × (text (get_or w p 0) ≡ text z) → ⊥)
        pair (inl a) (inl b) = inl (a, b)
        pair (inl a) (inr b) = inr (λ c. b c.1)
        pair (inr a) b = inr (λ c. let d = c.0 in omega arith)

    go : ((p : ℕ) × (p < g) × ((get_or w p 0 < z) × (text (get_or w p 0) ≡ text z))) ⊎ ((p : ℕ) → p < g → (get_or w p 0 < z) × (text (get_or w p 0) ≡ text z) → ⊥)
        → ((v : ℕ) × AmongFirst w g v × (v < z) × (text v ≡ text z)) ⊎ ((v : ℕ) → AmongFirst w g v → v < z → text v ≡ text z → ⊥)
    go (inl a) = inl (get_or w a.0 0, (a.0, a.1, refl), a.2.0, a.2.1)
    go (inr a) = inr (λ v h l t. let e = h.2 in a h.0 h.1 (omega arith, ap text e ∙ t))

-- the first g of y are ranked by texts that tell windows of n + 1 sites apart
module _ (ts : List (List ℕ)) (s starts : List ℕ) (text : ℕ → List ℕ) (y x r name rank rank' share share' : List ℕ) (g m n : ℕ)
    (pl : TextsPlaced ts s starts m) (rd : SitesReady s starts y g m) (rk : RunsRanked text y x r rank rank' share share' g (suc n)) (nm : Named ts (λ i. get_or name i 0))
    (there : (z v : ℕ) → (z ≡ v → ⊥) → SameWindow ts (suc n) z v → AmongFirst y g z)
    (texts : (z v : ℕ) → AmongFirst y g z → AmongFirst y g v → SameWindow ts (suc n) z v → text z ≡ text v)
    (windows : (z v : ℕ) → AmongFirst y g z → AmongFirst y g v → text z ≡ text v → SameWindow ts (suc n) z v)
    (cn : SharedUpTo ts n (λ i. get_or share i 0))
  where
    counted : SharedUpTo ts (suc n) (λ i. get_or share' i 0)
    counted z l = go (has? y g z) (earlier? text y g z)
      where
        go : AmongFirst y g z ⊎ (AmongFirst y g z → ⊥) → ((v : ℕ) × AmongFirst y g v × (v < z) × (text v ≡ text z)) ⊎ ((v : ℕ) → AmongFirst y g v → v < z → text v ≡ text z → ⊥)
            → get_or share' z 0 ≡ min (suc n) (shared_sites ts z)
        go (inl h) (inl (v, b, o, t)) = ranked_again text y x r rank rank' share share' g (suc n) rk z v h b o t ∙ shared-up-more ts n z v o (windows v z b h t)
        go (inl h) (inr none) =
            ranked_first text y x r rank rank' share share' g (suc n) rk z h none ∙ cn z l ∙ shared-up-same ts n z (λ v o w.
            let b = there v z (λ (q : v ≡ z). omega arith) w in
            none v b o (texts v z b h w))
        go (inr h) c = ranked_rest text y x r rank rank' share share' g (suc n) rk z h ∙ cn z l ∙ shared-up-same ts n z (λ v o w. h (there z v (λ (q : z ≡ v). omega arith) (window_flip ts (suc n) v z w)))

    pub level_ranked : LevelRanked ts s starts x r name rank' share' (suc n) g m
    level_ranked = record {
      placed = pl;
      ready = ready_arranged s starts y g m rd text x rk.arranged;
      named = nm;
      text = text;
      lined = rk.arranged.lined;
      runs = rk.runs;
      ranks = rk.brought.at;
      each = λ z v d w. rk.arranged.into z (there z v d w);
      same = λ z v h j w. texts z v (rk.arranged.from z h) (rk.arranged.from v j) w;
      back = λ z v h j t. windows z v (rk.arranged.from z h) (rk.arranged.from v j) t;
      counted = counted;
    }

-- of windows that are ranked those are kept that go on
module _ (ts : List (List ℕ)) (s starts x r name rank share x' : List ℕ) (n g k m : ℕ) (lr : LevelRanked ts s starts x r name rank share n g m) (kp : Kept (goes_on x r g m n) x x' g k) where
  was : (z : ℕ) → AmongFirst x' k z → AmongFirst x g z × (z + n < m)
  was z h = went_on lr.text x r g lr.lined lr.runs x' k m n kp z h

  pub level_kept : LevelKnown ts x' name rank share n k
  level_kept = record {
    named = lr.named;
    inside = λ z h. let l = lr.placed.many in let b = (was z h).1 in omega arith;
    each = λ z v d w.
        let l = lr.placed.many in
        let b = window_back ts (λ i. get_or name i 0) lr.named n z v w in
        let i = b.1 in
        let h = lr.each z v d b.0 in
        let j = lr.each v z (λ (q : v ≡ z). d (sym q)) (window_flip ts n z v b.0) in
        goes_on_lem lr.text x r g lr.lined lr.runs x' k m n kp z v h j d (lr.same z v h j b.0) (omega arith);
    same = λ z v h j w. let a = (was z h).0 in let b = (was v j).0 in ranks_same lr.text x r g lr.lined lr.runs rank lr.ranks z v a b (lr.same z v a b w);
    back = λ z v h j q. let a = (was z h).0 in let b = (was v j).0 in lr.back z v a b (ranks_back lr.text x r g lr.lined lr.runs rank lr.ranks z v a b q);
    counted = lr.counted;
  }

  pub ready_kept : SitesReady s starts x' k m
  ready_kept = record {
    few = omega (arith, kp.few, lr.ready.few);
    small = lr.ready.small;
    apart = kp.apart;
    inside = λ z h. lr.ready.inside z (was z h).0;
    sites = lr.ready.sites;
  }

-- by ranks of n sites, and the names of the sites behind
module _ (ts : List (List ℕ)) (s starts y x r name rank rank' share share' : List ℕ) (g m n : ℕ) (pl : TextsPlaced ts s starts m) (rd : SitesReady s starts y g m) (lv : LevelKnown ts y name rank share n g)
    (rk : RunsRanked (λ a. get_or rank a 0 ∷ get_or name (a + n) 0 ∷ []) y x r rank rank' share share' g (n + 1))
  where
    abbrev text : ℕ → List ℕ
    text a = get_or rank a 0 ∷ get_or name (a + n) 0 ∷ []

    texts : (z v : ℕ) → AmongFirst y g z → AmongFirst y g v → SameWindow ts (suc n) z v → text z ≡ text v
    texts z v h j w =
        let b = window_back ts (λ i. get_or name i 0) lv.named n z v w in
        let c : get_or rank z 0 ≡ get_or rank v 0 = lv.same z v h j b.0 in
        let d : get_or name (z + n) 0 ≡ get_or name (v + n) 0 = b.3 in
        cc

    windows : (z v : ℕ) → AmongFirst y g z → AmongFirst y g v → text z ≡ text v → SameWindow ts (suc n) z v
    windows z v h j t =
        let c : get_or rank z 0 ≡ get_or rank v 0 = cc in
        let d : get_or name (z + n) 0 ≡ get_or name (v + n) 0 = cc in
        window_on ts (λ i. get_or name i 0) lv.named n z v (lv.back z v h j c) (lv.inside z h) (lv.inside v j) d

    pub level_more : LevelRanked ts s starts x r name rank' share' (n + 1) g m
    level_more =
        let k : RunsRanked (λ a. get_or rank a 0 ∷ get_or name (a + n) 0 ∷ []) y x r rank rank' share share' g (suc n) = rw (add-one n) at rk in
        rw (add-one n) (level_ranked ts s starts text y x r name rank rank' share share' g m n pl rd k lv.named lv.each texts windows lv.counted)
