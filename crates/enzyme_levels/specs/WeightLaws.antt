-- The weights that are read off ranked windows are those of their classes. Assumes nothing.
use Rattle.std.specs.Prelude.{ℕ, zero, suc, min, ◌+◌, ◌-◌, ◌≤◌, ◌<◌, ◌≡◌, refl, Bool, true, false, cond, ◌⊎◌, List, leb, eqb, length, get_or}
use Rattle.std.proofs.Common.{sym, ap, ◌∙◌, inl, inr, arith, eqb-true, le-leb, lt-ltb, eq-eqb}
use Rattle.std.proofs.lemmas.Bool.{eqb-false, lt-leb}
use Rattle.lists.specs.Tests.{same?, below?}
use Rattle.enzyme_windows.specs.Shared.{shared_sites, SameWindow}
use Rattle.enzyme_windows.specs.Weights.{one_if_same, windows_there, same_count, class_weight}
use Rattle.enzyme_windows.proofs.FirstLaws.{window-shared}
use Rattle.enzyme_windows.specs.GroupLaws.{window_self, window-turned}
use Rattle.enzyme_windows.specs.SumLaws.{count_places}
use Rattle.enzyme_windows.proofs.ClassLaws.{one_same, same_or}
use Rattle.enzyme_rows.specs.Steps.{AmongFirst}
use Rattle.enzyme_runs.specs.RunLaws.{run-start, runs_back, runs_same}
use Rattle.enzyme_weights.specs.Weights.{run_from, run_size, class_size, weight_in}
use Rattle.enzyme_weights.specs.SizeLaws.{class_past, class_other}
use Rattle.enzyme_levels.specs.Levels.{LevelRanked}
use Rattle.enzyme_levels.specs.LevelLaws.{has?}

-- ---- the places of a run

-- each of those counted has the start of the run, and the next one has not
run_places : (r : List ℕ) (p left q a : ℕ) → a < run_from r p q left → (a < left) × (get_or r (q + a) 0 ≡ p)
run_places r p zero q a h = absurd (omega arith)
run_places r p (suc left) q a h = go (eqb (get_or r q 0) p) refl h a (λ b k. run_places r p left (suc q) b k)
  where
    go : (b : Bool) → eqb (get_or r q 0) p ≡ b → a < cond b (suc (run_from r p (suc q) left)) 0 → (c : ℕ)
        → ((c : ℕ) → c < run_from r p (suc q) left → (c < left) × (get_or r (suc q + c) 0 ≡ p)) → (a < suc left) × (get_or r (q + a) 0 ≡ p)
    go false e h c ih = absurd (omega arith)
    go true e h c ih = by a h
      where
        by : (a : ℕ) → a < suc (run_from r p (suc q) left) → (a < suc left) × (get_or r (q + a) 0 ≡ p)
        by zero k = let z : q + 0 ≡ q = omega arith in (omega arith, rw z (eqb-true (get_or r q 0) p e))
        by (suc a) k =
            let x = ih a (omega arith) in
            let l = x.0 in
            let z : q + suc a ≡ suc q + a = omega arith in
            (omega arith, rw z x.1)

run_over : (r : List ℕ) (p left q : ℕ) → run_from r p q left < left → get_or r (q + run_from r p q left) 0 ≡ p → ⊥
run_over r p zero q h e = omega arith
run_over r p (suc left) q h e = go (eqb (get_or r q 0) p) refl h e (run_over r p left (suc q))
  where
    go : (b : Bool) → eqb (get_or r q 0) p ≡ b → cond b (suc (run_from r p (suc q) left)) 0 < suc left → get_or r (q + cond b (suc (run_from r p (suc q) left)) 0) 0 ≡ p
        → (run_from r p (suc q) left < left → get_or r (suc q + run_from r p (suc q) left) 0 ≡ p → ⊥) → ⊥
    go false f h e ih = let z : q + 0 ≡ q = omega arith in eqb-false (get_or r q 0) p f (rw z at e)
    go true f h e ih = let z : q + suc (run_from r p (suc q) left) ≡ suc q + run_from r p (suc q) left = omega arith in ih (omega arith) (rw z at e)

-- ---- the sites of a run are those with equal windows

module _ (ts : List (List ℕ)) (s starts x r name rank share : List ℕ) (n g m : ℕ) (lr : LevelRanked ts s starts x r name rank share (suc n) g m) where
  -- site i stands at place p, at which a run starts
  module _ (i p : ℕ) (l : i + suc n ≤ length ts) (h : p < g) (e : get_or x p 0 ≡ i) (first : get_or r p 0 ≡ p) where
    here : (a : ℕ) → a < run_size r g p → (p + a < g) × SameWindow ts (suc n) i (get_or x (p + a) 0)
    here a k =
        let y = run_places r p (g - p) p a k in
        let o = y.0 in
        let b : p + a < g = omega arith in
        let t = runs_back lr.text x r g lr.lined lr.runs p (p + a) h b (first ∙ sym y.1) in
        let w = lr.back (get_or x p 0) (get_or x (p + a) 0) (p, h, refl) (p + a, b, refl) t in
        (b, rw e at w)

    some : 0 < run_size r g p
    some = go (below? 0 (run_size r g p))
      where
        go : (0 < run_size r g p) ⊎ (run_size r g p ≤ 0) → 0 < run_size r g p
        go (inl a) = a
        go (inr a) =
            let z : p + run_size r g p ≡ p = omega arith in
            absurd (run_over r p (g - p) p (omega arith) (rw z first))

    -- another that has an equal window stands among them
    there : (j : ℕ) → (i ≡ j → ⊥) → SameWindow ts (suc n) i j → ((a : ℕ) × (a < run_size r g p) × (get_or x (p + a) 0 ≡ j))
    there j d w = by (lr.each j i (λ (z : j ≡ i). d (sym z)) (window-turned ts (suc n) i j w))
      where
        by : AmongFirst x g j → ((a : ℕ) × (a < run_size r g p) × (get_or x (p + a) 0 ≡ j))
        by (q, o, f) =
            let t : lr.text (get_or x p 0) ≡ lr.text (get_or x q 0) = rw (e, f) (lr.same i j (p, h, e) (q, o, f) w) in
            let b = runs_same lr.text x r g lr.lined lr.runs p q h o t in
            let c = (run-start lr.text x r g lr.lined lr.runs q o).0 in
            let z : p + (q - p) ≡ q = omega arith in
            (q - p, near (below? (q - p) (run_size r g p)) t b c, rw z f)
          where
            near : (q - p < run_size r g p) ⊎ (run_size r g p ≤ q - p) → lr.text (get_or x p 0) ≡ lr.text (get_or x q 0) → get_or r p 0 ≡ get_or r q 0 → get_or r q 0 ≤ q → q - p < run_size r g p
            near (inl k) t b c = k
            near (inr k) t b c =
                let y = some in
                let end : p + run_size r g p ≤ q = omega arith in
                absurd (run_over r p (g - p) p (omega arith) (past (below? (p + run_size r g p) q) end t b))
              where
                past : (p + run_size r g p < q) ⊎ (q ≤ p + run_size r g p) → p + run_size r g p ≤ q → lr.text (get_or x p 0) ≡ lr.text (get_or x q 0) → get_or r p 0 ≡ get_or r q 0 → get_or r (p + run_size r g p) 0 ≡ p
                past (inl u) end t b =
                    let y = some in
                    let v = lr.lined.between p (p + run_size r g p) q (omega arith) u o t in
                    sym (runs_same lr.text x r g lr.lined lr.runs p (p + run_size r g p) h (omega arith) v) ∙ first
                past (inr u) end t b =
                    let z : p + run_size r g p ≡ q = omega arith in
                    rw z (sym b ∙ first)

    pub run_class : same_count ts (suc n) i ≡ run_size r g p
    run_class =
        count_places (λ (a : ℕ). get_or x (p + a) 0) (windows_there ts (suc n)) (run_size r g p) (one_if_same ts (suc n) i)
        (λ a b u k f. let y = (here b k).0 in lr.ready.apart (p + a) (p + b) (omega arith) (omega arith) f)
        (λ a k. let y = (here a k).1.second in omega arith)
        (λ a k. one_same ts n i (get_or x (p + a) 0) (here a k).1)
        (λ j k none. go j none (same? i j) (same_or ts n i j))
      where
        go : (j : ℕ) → ((a : ℕ) → a < run_size r g p → get_or x (p + a) 0 ≡ j → ⊥) → (i ≡ j) ⊎ (i ≡ j → ⊥) → SameWindow ts (suc n) i j ⊎ (one_if_same ts (suc n) i j ≡ 0) → one_if_same ts (suc n) i j ≡ 0
        go j none d (inr z) = z
        go j none (inl z) (inl w) = let y : p + 0 ≡ p = omega arith in absurd (none 0 some (rw y (e ∙ z)))
        go j none (inr d) (inl w) = let y = there j d w in absurd (none y.0 y.1 y.2)

  -- a site that does not stand there has no equal
  pub lone_class : (i : ℕ) → i + suc n ≤ length ts → (AmongFirst x g i → ⊥) → same_count ts (suc n) i ≡ 1
  lone_class i l out =
      count_places (λ (a : ℕ). i) (windows_there ts (suc n)) 1 (one_if_same ts (suc n) i)
      (λ a b u k f. omega arith) (λ a k. omega arith) (λ a k. one_same ts n i i (window_self ts (suc n) i l)) (λ j k none. go j (none 0 (omega arith)) (same_or ts n i j))
    where
      go : (j : ℕ) → (i ≡ j → ⊥) → SameWindow ts (suc n) i j ⊎ (one_if_same ts (suc n) i j ≡ 0) → one_if_same ts (suc n) i j ≡ 0
      go j d (inr z) = z
      go j d (inl w) = absurd (out (lr.each i j d w))

  -- ---- the weight of a window

  module _ (i : ℕ) (l : i + suc n ≤ length ts) where
    -- no earlier site starts an equal window: the run of i starts with it
    starts-run : shared_sites ts i < suc n → (p : ℕ) → p < g → get_or x p 0 ≡ i → get_or r p 0 ≡ p
    starts-run new p h e = go (same? (get_or r p 0) p)
      where
        go : (get_or r p 0 ≡ p) ⊎ (get_or r p 0 ≡ p → ⊥) → get_or r p 0 ≡ p
        go (inl z) = z
        go (inr d) =
            let a = run-start lr.text x r g lr.lined lr.runs p h in
            let b = less (below? (get_or r p 0) p) a.0 in
            let c : get_or x (get_or r p 0) 0 < get_or x p 0 = lr.lined.rises (get_or r p 0) p b h a.1 in
            let w = lr.back (get_or x (get_or r p 0) 0) (get_or x p 0) (get_or r p 0, omega arith, refl) (p, h, refl) a.1 in
            let y = window-shared ts (suc n) (get_or x (get_or r p 0) 0) (get_or x p 0) c w in
            let z : suc n ≤ shared_sites ts i = rw e at y in
            absurd (omega arith)
          where
            less : (get_or r p 0 < p) ⊎ (p ≤ get_or r p 0) → get_or r p 0 ≤ p → get_or r p 0 < p
            less (inl u) v = u
            less (inr u) v = absurd (d (omega arith))

    sized : shared_sites ts i < suc n → class_size x r rank g i ≡ same_count ts (suc n) i
    sized new = go (has? x g i)
      where
        go : AmongFirst x g i ⊎ (AmongFirst x g i → ⊥) → class_size x r rank g i ≡ same_count ts (suc n) i
        go (inl (p, h, e)) =
            let f = starts-run new p h e in
            let k : get_or rank i 0 ≡ p = ap (λ (z : ℕ). get_or rank z 0) (sym e) ∙ lr.ranks p h ∙ f in
            rw (k, lt-ltb p g h, eq-eqb (get_or x p 0) i e) (sym (run_class i p l h e f))
        go (inr out) = none (below? (get_or rank i 0) g) (same? (get_or x (get_or rank i 0) 0) i) ∙ sym (lone_class i l out)
          where
            none : (get_or rank i 0 < g) ⊎ (g ≤ get_or rank i 0) → (get_or x (get_or rank i 0) 0 ≡ i) ⊎ (get_or x (get_or rank i 0) 0 ≡ i → ⊥) → class_size x r rank g i ≡ 1
            none (inr u) v = sym (class_past x r rank g i (get_or rank i 0) refl u)
            none (inl u) (inl v) = absurd (out (get_or rank i 0, u, v))
            none (inl u) (inr v) = sym (class_other x r rank g i (get_or rank i 0) refl u v)

    pub level_weighs : weight_in x r rank share g (suc n) i ≡ class_weight ts (suc n) i
    level_weighs = go (below? (shared_sites ts i) (suc n)) (lr.counted i (omega arith))
      where
        go : (shared_sites ts i < suc n) ⊎ (suc n ≤ shared_sites ts i) → get_or share i 0 ≡ min (suc n) (shared_sites ts i) → weight_in x r rank share g (suc n) i ≡ class_weight ts (suc n) i
        go (inl u) c =
            let a : leb (suc n) (get_or share i 0) ≡ false = lt-leb (suc n) (get_or share i 0) (omega arith) in
            let b : leb (suc n) (shared_sites ts i) ≡ false = lt-leb (suc n) (shared_sites ts i) u in
            rw (a, b) (sized u)
        go (inr u) c =
            let a : leb (suc n) (get_or share i 0) ≡ true = le-leb (suc n) (get_or share i 0) (omega arith) in
            let b : leb (suc n) (shared_sites ts i) ≡ true = le-leb (suc n) (shared_sites ts i) u in
            rw (a, b)
