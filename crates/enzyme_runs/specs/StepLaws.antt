-- What the runs of a row say of ranks, of the sites that go on, and of what is shared. Assumes nothing.
use Rattle.std.specs.Prelude.{ℕ, ◌+◌, ◌≤◌, ◌<◌, ◌≡◌, refl, true, false, not, ◌⊎◌, List, ltb, eqb, get_or}
use Rattle.std.proofs.Common.{sym, ap, ◌∙◌, inl, inr, arith, ltb-true, lt-ltb, ne_eqb}
use Rattle.std.proofs.Math.Bool.{or-true}
use Rattle.lists.specs.Tests.{same?, below?, both}
use Rattle.enzyme_rows.specs.Steps.{AmongFirst, StandTogether, Arranged, RunStarts, Called, RunsRanked, OneName, in_run, goes_on, Kept}
use Rattle.enzyme_runs.specs.RunLaws.{run-start, runs_back, runs_same, first-least, first_later, run_later, run_sooner}

module _ (text : ℕ → List ℕ) (x r : List ℕ) (g : ℕ) (ln : StandTogether text x g) (rn : RunStarts text x r g) where
  -- ranks by the starts of runs tell texts apart
  module _ (rank : List ℕ) (at : (p : ℕ) → p < g → get_or rank (get_or x p 0) 0 ≡ get_or r p 0) where
    pub ranks_same : (z v : ℕ) → AmongFirst x g z → AmongFirst x g v → text z ≡ text v → get_or rank z 0 ≡ get_or rank v 0
    ranks_same z v (p, h, e) (q, l, f) t =
        ap (λ (i : ℕ). get_or rank i 0) (sym e) ∙ at p h ∙ runs_same text x r g ln rn p q h l (ap text e ∙ t ∙ sym (ap text f)) ∙ sym (at q l) ∙ ap (λ (i : ℕ). get_or rank i 0) f

    pub ranks_back : (z v : ℕ) → AmongFirst x g z → AmongFirst x g v → get_or rank z 0 ≡ get_or rank v 0 → text z ≡ text v
    ranks_back z v (p, h, e) (q, l, f) t =
        let c : get_or r p 0 ≡ get_or r q 0 = sym (at p h) ∙ ap (λ (i : ℕ). get_or rank i 0) e ∙ t ∙ ap (λ (i : ℕ). get_or rank i 0) (sym f) ∙ at q l in
        sym (ap text e) ∙ runs_back text x r g ln rn p q h l c ∙ ap text f

  -- two in a run go on
  in_run_lem : (p q : ℕ) → p < g → q < g → (get_or x p 0 ≡ get_or x q 0 → ⊥) → text (get_or x p 0) ≡ text (get_or x q 0) → in_run r g p ≡ true
  in_run_lem p q h l d e = go (below? q p) (below? p q)
    where
      go : (q < p) ⊎ (p ≤ q) → (p < q) ⊎ (q ≤ p) → in_run r g p ≡ true
      go (inl a) c =
          let z : eqb (get_or r p 0) p ≡ false = ne_eqb (get_or r p 0) p (λ (s : get_or r p 0 ≡ p). run_later text x r g ln rn p q h a (sym e) s) in
          rw z
      go (inr a) (inl c) =
          let z : eqb (get_or r (p + 1) 0) (p + 1) ≡ false = ne_eqb (get_or r (p + 1) 0) (p + 1) (λ (s : get_or r (p + 1) 0 ≡ p + 1). run_sooner text x r g ln rn p q l c e s) in
          let b : ltb (p + 1) g ≡ true = lt-ltb (p + 1) g (omega arith) in
          rw (z, b) (or-true (not (eqb (get_or r p 0) p)))
      go (inr a) (inr c) = let z : p ≡ q = omega arith in absurd (d (ap (λ (i : ℕ). get_or x i 0) z))

  module _ (x' : List ℕ) (k m n : ℕ) (kp : Kept (goes_on x r g m n) x x' g k) where
    pub goes_on_lem : (z v : ℕ) → AmongFirst x g z → AmongFirst x g v → (z ≡ v → ⊥) → text z ≡ text v → z + n < m → AmongFirst x' k z
    goes_on_lem z v (p, h, e) (q, l, f) d t b =
        let a : in_run r g p ≡ true = in_run_lem p q h l (λ (s : get_or x p 0 ≡ get_or x q 0). d (sym e ∙ s ∙ f)) (ap text e ∙ t ∙ sym (ap text f)) in
        let c : ltb (get_or x p 0 + n) m ≡ true = lt-ltb (get_or x p 0 + n) m (omega arith) in
        let o : goes_on x r g m n p ≡ true = rw (a, c) in
        rw e at (kp.each p h o)

    pub went_on : (z : ℕ) → AmongFirst x' k z → AmongFirst x g z × (z + n < m)
    went_on z (q, l, e) =
        let f = kp.from q l in
        let s = both (in_run r g f.0) (ltb (get_or x f.0 0 + n) m) f.2 in
        let b = ltb-true (get_or x f.0 0 + n) m s.1 in
        let i : get_or x f.0 0 ≡ z = sym f.3 ∙ e in
        ((f.0, f.1, i), omega arith)

module _ (text : ℕ → List ℕ) (y x r rank rank' share share' : List ℕ) (g n : ℕ) (rk : RunsRanked text y x r rank rank' share share' g n) where
  -- what is shared: n where an earlier one has the text, else as before
  pub ranked_again : (z v : ℕ) → AmongFirst y g z → AmongFirst y g v → v < z → text v ≡ text z → get_or share' z 0 ≡ n
  ranked_again z v a b o t = go (rk.arranged.into z a) (rk.arranged.into v b)
    where
      go : AmongFirst x g z → AmongFirst x g v → get_or share' z 0 ≡ n
      go (p, h, e) (q, l, f) =
          let d : get_or r p 0 ≡ p → ⊥ = λ s. first-least text x r g rk.arranged.lined rk.runs p q h l s (omega arith) (ap text f ∙ t ∙ sym (ap text e)) in
          ap (λ (i : ℕ). get_or share' i 0) (sym e) ∙ rk.marked.later p h d

  pub ranked_first : (z : ℕ) → AmongFirst y g z → ((v : ℕ) → AmongFirst y g v → v < z → text v ≡ text z → ⊥) → get_or share' z 0 ≡ get_or share z 0
  ranked_first z a none = go (rk.arranged.into z a)
    where
      start : (p : ℕ) → p < g → get_or x p 0 ≡ z → (get_or r p 0 ≡ p) ⊎ (get_or r p 0 ≡ p → ⊥) → get_or r p 0 ≡ p
      start p h e (inl s) = s
      start p h e (inr s) =
          let f = first_later text x r g rk.arranged.lined rk.runs p h s in
          let l = f.2 in
          absurd (none (get_or x f.0 0) (rk.arranged.from (get_or x f.0 0) (f.0, f.1, refl)) (omega arith) (f.3 ∙ ap text e))

      go : AmongFirst x g z → get_or share' z 0 ≡ get_or share z 0
      go (p, h, e) = ap (λ (i : ℕ). get_or share' i 0) (sym e) ∙ rk.marked.first p h (start p h e (same? (get_or r p 0) p)) ∙ ap (λ (i : ℕ). get_or share i 0) e

  pub ranked_rest : (z : ℕ) → (AmongFirst y g z → ⊥) → get_or share' z 0 ≡ get_or share z 0
  ranked_rest z a = rk.marked.rest z (λ (b : AmongFirst x g z). a (rk.arranged.from z b))

-- the first of a run is the name of all of it
module _ (text : ℕ → List ℕ) (y x r name name' : List ℕ) (g : ℕ) (ar : Arranged text y x g) (rn : RunStarts text x r g) (cl : Called x r name name' g) where
  named_first : (z p : ℕ) → p < g → get_or x p 0 ≡ z → get_or name' z 0 ≡ get_or x (get_or r p 0) 0
  named_first z p h e = ap (λ (i : ℕ). get_or name' i 0) (sym e) ∙ cl.at p h

  pub one_name : OneName text y name name' g
  one_name = record {
    like = λ z a.
        let (p, h, e) = ar.into z a in
        ap text (named_first z p h e) ∙ (run-start text x r g ar.lined rn p h).1 ∙ ap text e;
    same = λ z v a b t.
        let (p, h, e) = ar.into z a in
        let (q, l, f) = ar.into v b in
        let s = runs_same text x r g ar.lined rn p q h l (ap text e ∙ t ∙ sym (ap text f)) in
        named_first z p h e ∙ ap (λ (i : ℕ). get_or x i 0) s ∙ sym (named_first v q l f);
    rest = λ z a. cl.rest z (λ (b : AmongFirst x g z). a (ar.from z b));
  }
