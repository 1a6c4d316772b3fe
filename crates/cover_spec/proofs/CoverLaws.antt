-- What the cover achieves: each meta-peptide with an edge has a marked neighbour, and each marked group, when marked, newly covered one. Assumes nothing.
use Rattle.std.proofs.Math.Bool.{Bool, true, false, and-false, or-false}
use Rattle.std.specs.Prelude.{not, ◌&&◌, ◌||◌, length, ◌≡◌, ◌⊎◌}
use Rattle.std.proofs.lemmas.Bool.{false≢true}
use mathlib.Core.List.{List, [], ◌∷◌}
use Prim.Native.Nat.{ℕ, zero, suc, ◌≤◌, ◌<◌}
use Rattle.std.proofs.Math.Dec.{eqb}
use Rattle.std.proofs.Math.Path.{refl, sym, subst}
use Rattle.std.proofs.Common.{ap, ◌∙◌, arith}
use Rattle.std.proofs.Math.Logic.{inl, inr}
use borrow.Author.Tests.{eqb-true, eqb-false, ltb-true, eq-eqb, lt-ltb, not-true}
use Rattle.lists.specs.Tests.{both, neither, or_left, or_right}
use Rattle.lists.specs.Lists.{count, some, keep, All}
use Rattle.lists.specs.KeepLaws.{all_map, count_ext, count-keep, count-le, count_mono, some_mono, all-kept, some-none}
use Rattle.cover_spec.specs.Cover.{Edge, group, meta, of_meta, State, forced, mark_forced, cover_marked, stays, pass, trim, choice, mark, choose, turn, turns, start, cover, same_edge}
use Rattle.cover_spec.specs.CountLaws.{all-at, find, same-edge}
use Rattle.cover_spec.specs.TrimLaws.{iter, passes-iter, trim_settled, trim-le}
use Rattle.cover_spec.proofs.ChoiceLaws.{GroupsUnder, choice-has}
use Rattle.cover_spec.proofs.TurnLaws.{under_pass, turn-empty, turn-choose, turns-iter, turns_end}

-- the states of a run
module _ (n : ℕ) (all : List Edge) where
  pub data Visited : State → Type 0 where
    begin : Visited (start all)
    passed : {s : State} → Visited s → Visited (pass s)
    chosen : {s : State} → Visited s → pass s ≡ s → 0 < length s.edges → Visited (choose all n s)

  pub visited_trim : (s : State) → Visited s → Visited (trim s)
  unfolding iter
  visited_trim s v = rw (passes-iter (length s.edges) s) (go (length s.edges) s v)
    where
      go : (k : ℕ) (t : State) → Visited t → Visited (iter pass k t)
      go zero t w = w
      go (suc k) t w = go k (pass t) (passed w)

  pub visited_turn : (s : State) → Visited s → Visited (turn all n s)
  visited_turn s v = go (eqb (length (trim s).edges) 0) refl
    where
      go : (b : Bool) → eqb (length (trim s).edges) 0 ≡ b → Visited (turn all n s)
      go true i = rw (turn-empty all n s (eqb-true (length (trim s).edges) 0 i)) (visited_trim s v)
      go false i =
          let z : 0 < length (trim s).edges = omega (arith, eqb-false (length (trim s).edges) 0 i) in
          rw (turn-choose all n s z) (chosen (visited_trim s v) (trim_settled s) z)

  abbrev pub final : State
  final = turns all n (suc (length all)) (start all)

  pub visited_final : Visited final
  unfolding iter
  visited_final = rw (turns-iter all n (suc (length all)) (start all)) (go (suc (length all)) (start all) begin)
    where
      go : (k : ℕ) (t : State) → Visited t → Visited (iter (turn all n) k t)
      go zero t w = w
      go (suc k) t w = go k (turn all n t) (visited_turn t w)

  final-empty : GroupsUnder n all → length final.edges ≡ 0
  final-empty u = rw (turns-iter all n (suc (length all)) (start all)) (turns_end all n (length all) (start all) u (trim-le (start all)))

  -- ---- what holds of every state of a run

  pub record SoundRun (s : State) : Type 0 where
    pub fewer : (p : Edge → Bool) → count p s.edges ≤ count p all
    pub owned : (m : ℕ) → s.covered m ≡ true → some (λ e. eqb (meta e) m && s.marked (group e)) all ≡ true
    pub whole : (m : ℕ) → s.covered m ≡ false → of_meta m s.edges ≡ of_meta m all
    pub fresh : All (λ e. s.covered (meta e) ≡ false) s.edges

  and_mono : (a b c : Bool) → (b ≡ true → c ≡ true) → (a && b) ≡ true → (a && c) ≡ true
  and_mono true b c h i = h i
  and_mono false b c h i = i

  sound-pass : (s : State) → SoundRun s → SoundRun (pass s)
  unfolding pass mark_forced cover_marked stays
  sound-pass s h = record {
    fewer = λ p. omega (arith, count-keep p (stays s) s.edges, count_mono (λ e. stays s e && p e) p (λ e i. (both (stays s e) (p e) i).1) s.edges, h.fewer p);
    owned = λ m i. owned_pass m (s.covered m) refl i;
    whole = whole-pass;
    fresh = all_map (λ e i. fresh-one e i) (keep (stays s) s.edges) (all-kept (stays s) s.edges);
  }
    where
      owned_pass : (m : ℕ) (b : Bool) → s.covered m ≡ b → cover_marked s m ≡ true → some (λ e. eqb (meta e) m && mark_forced s (group e)) all ≡ true
      owned_pass m true j i =
          some_mono (λ e. eqb (meta e) m && s.marked (group e)) (λ e. eqb (meta e) m && mark_forced s (group e))
          (λ e. and_mono (eqb (meta e) m) (s.marked (group e)) (mark_forced s (group e)) (or_left (s.marked (group e)) (forced s.edges (group e)))) all (h.owned m j)
      owned_pass m false j i =
          let p : Edge → Bool = λ e. eqb (meta e) m && mark_forced s (group e) in
          lt-ltb 0 (count p all) (omega (arith, ltb-true 0 (count p s.edges) (rw j at i), h.fewer p))

      kept : (m : ℕ) → cover_marked s m ≡ false → (e : Edge) → (eqb (meta e) m && mark_forced s (group e)) ≡ false → (b : Bool) → eqb (meta e) m ≡ b → (stays s e && b) ≡ b
      kept m i e j true q =
          let a : mark_forced s (group e) ≡ false = rw q at j in
          let c : cover_marked s (meta e) ≡ false = ap (cover_marked s) (eqb-true (meta e) m q) ∙ i in
          rw (a, c)
      kept m i e j false q = and-false (stays s e)

      whole-pass : (m : ℕ) → cover_marked s m ≡ false → of_meta m (keep (stays s) s.edges) ≡ of_meta m all
      whole-pass m i =
          let u = neither (s.covered m) (some (λ e. eqb (meta e) m && mark_forced s (group e)) s.edges) i in
          count-keep (λ e. eqb (meta e) m) (stays s) s.edges
          ∙ count_ext (λ e. stays s e && eqb (meta e) m) (λ e. eqb (meta e) m) s.edges
          (all_map (λ e j. kept m i e j (eqb (meta e) m) refl) s.edges (some-none (λ e. eqb (meta e) m && mark_forced s (group e)) s.edges u.1))
          ∙ h.whole m u.0

      fresh-one : (e : Edge) → stays s e ≡ true → cover_marked s (meta e) ≡ false
      fresh-one e i = not-true (cover_marked s (meta e)) (both (not (mark_forced s (group e))) (not (cover_marked s (meta e))) i).1

  sound-mark : (s : State) (g : ℕ) → SoundRun s → SoundRun (mark g s)
  unfolding mark
  sound-mark s g h = record {
    fewer = h.fewer;
    owned = λ m i.
        some_mono (λ e. eqb (meta e) m && s.marked (group e)) (λ e. eqb (meta e) m && (eqb (group e) g || s.marked (group e)))
        (λ e. and_mono (eqb (meta e) m) (s.marked (group e)) (eqb (group e) g || s.marked (group e)) (or_right (eqb (group e) g) (s.marked (group e)))) all (h.owned m i);
    whole = h.whole;
    fresh = h.fresh;
  }

  pub sound-run : {s : State} → Visited s → SoundRun s
  unfolding choose
  sound-run begin = record { fewer = λ p. omega arith; owned = λ m i. absurd (false≢true i); whole = λ m i. refl; fresh = go all }
    where
      go : (l : List Edge) → All (λ e. false ≡ false) l
      go [] = tt
      go (e ∷ l) = (refl, go l)
  sound-run (passed {s = s} v) = sound-pass s (sound-run v)
  sound-run (chosen {s = s} v e z) = sound-mark s (choice all s.edges n) (sound-run v)

  -- each meta-peptide with an edge has a marked neighbour
  pub neighbour : GroupsUnder n all → (m : ℕ) → 0 < of_meta m all → some (λ e. eqb (meta e) m && cover n all (group e)) all ≡ true
  unfolding cover
  neighbour u m h = go (final.covered m) refl
    where
      f : SoundRun final
      f = sound-run visited_final

      go : (b : Bool) → final.covered m ≡ b → some (λ e. eqb (meta e) m && final.marked (group e)) all ≡ true
      go true i = f.owned m i
      go false i = absurd (omega (arith, f.whole m i, final-empty u, count-le (λ e. eqb (meta e) m) final.edges))

  -- the moment when a group is marked: it was not, and holds an edge of a meta-peptide not covered before;
  -- either the pass that marks it covers that one, or it is the choice and the pass after covers it
  pub record Marking (g : ℕ) : Type 0 where
    pub before : State
    pub visited : Visited before
    pub unmarked : before.marked g ≡ false
    pub target : ℕ
    pub remains : 0 < count (same_edge (g, target)) before.edges
    pub uncovered : before.covered target ≡ false
    pub newly : (((pass before).marked g ≡ true) × ((pass before).covered target ≡ true))
        ⊎ ((pass before ≡ before) × (g ≡ choice all before.edges n) × ((pass (choose all n before)).covered target ≡ true))

  -- a pass covers what an edge of a group that it leaves marked leads to
  covers : (s : State) (g m : ℕ) → 0 < count (same_edge (g, m)) s.edges → (pass s).marked g ≡ true → (pass s).covered m ≡ true
  unfolding pass cover_marked
  covers s g m h i =
      or_right (s.covered m) (some (λ e. eqb (meta e) m && mark_forced s (group e)) s.edges)
      (some_mono (same_edge (g, m)) (λ e. eqb (meta e) m && mark_forced s (group e)) each s.edges (lt-ltb 0 (count (same_edge (g, m)) s.edges) h))
    where
      each : (e : Edge) → same_edge (g, m) e ≡ true → (eqb (meta e) m && mark_forced s (group e)) ≡ true
      each e j =
          let q = same-edge (g, m) e j in
          subst (λ (d : Edge). (eqb (meta d) m && mark_forced s (group d)) ≡ true) q (rw (eq-eqb m m refl, i))

  visited_under : GroupsUnder n all → {s : State} → Visited s → GroupsUnder n s.edges
  unfolding choose mark
  visited_under u begin = u
  visited_under u (passed {s = s} v) = under_pass n s (visited_under u v)
  visited_under u (chosen {s = s} v e z) = visited_under u v

  -- each marked group, when marked, newly covered one
  pub marking : GroupsUnder n all → {s : State} → Visited s → (g : ℕ) → s.marked g ≡ true → Marking g
  unfolding pass choose mark mark_forced
  marking u begin g i = absurd (false≢true i)
  marking u (passed {s = s} v) g i = go (s.marked g) refl (λ j. marking u v g j)
    where
      go : (b : Bool) → s.marked g ≡ b → (s.marked g ≡ true → Marking g) → Marking g
      go true j r = r j
      go false j r =
          let p : Edge → Bool = λ e. eqb (group e) g && eqb (of_meta (meta e) s.edges) 1 in
          let (e, k, z) = find p s.edges (ltb-true 0 (count p s.edges) (rw j at i)) in
          let q : group e ≡ g = eqb-true (group e) g (both (eqb (group e) g) (eqb (of_meta (meta e) s.edges) 1) k).0 in
          let x : 0 < count (same_edge (g, meta e)) s.edges = subst (λ (h : ℕ). 0 < count (same_edge (h, meta e)) s.edges) q z in
          record {
            before = s;
            visited = v;
            unmarked = j;
            target = meta e;
            remains = x;
            uncovered = all-at (λ d. s.covered (meta d) ≡ false) e s.edges (sound-run v).fresh z;
            newly = inl (i, covers s g (meta e) x i);
          }
  marking u (chosen {s = s} v e z) g i = go (s.marked g) refl (λ j. marking u v g j)
    where
      go : (b : Bool) → s.marked g ≡ b → (s.marked g ≡ true → Marking g) → Marking g
      go true j r = r j
      go false j r =
          let c : ℕ = choice all s.edges n in
          let q : g ≡ c = eqb-true g c (sym (or-false (eqb g c)) ∙ (rw j at i)) in
          let (d, k, y) = find (λ d. eqb (group d) c) s.edges (choice-has all s.edges n (visited_under u v) z) in
          let x : 0 < count (same_edge (g, meta d)) s.edges = subst (λ (h : ℕ). 0 < count (same_edge (h, meta d)) s.edges) (eqb-true (group d) c k ∙ sym q) y in
          record {
            before = s;
            visited = v;
            unmarked = j;
            target = meta d;
            remains = x;
            uncovered = all-at (λ f. s.covered (meta f) ≡ false) d s.edges (sound-run v).fresh y;
            newly = inr (e, q, covers (choose all n s) g (meta d) x (or_left ((choose all n s).marked g) (forced s.edges g) i));
          }

  pub cover_marking : GroupsUnder n all → (g : ℕ) → cover n all g ≡ true → Marking g
  unfolding cover
  cover_marking u g i = marking u visited_final g i
