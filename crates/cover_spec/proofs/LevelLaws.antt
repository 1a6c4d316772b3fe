-- The cover by levels. The groups stand in one order for good: original edges, then the number, both falling. At level d the groups that
-- have exactly d edges left are taken, in that order: each is the choice. Assumes nothing.
use Rattle.std.specs.Prelude.{◌≡◌, Bool, ◌&&◌, List, [], ◌∷◌, ltb, length}
use Rattle.std.proofs.Math.Path.{refl, subst}
use Rattle.std.proofs.Common.{sym, ap, ◌∙◌, arith, eqb-true, ltb-true, ltb-false, eq-eqb, lt-ltb}
use Rattle.std.proofs.Math.Bool.{true, false, not, and-false}
use Prim.Native.Nat.{ℕ, zero, suc, ◌+◌, ◌≤◌, ◌<◌}
use Rattle.std.proofs.Math.Dec.{eqb}
use Rattle.std.proofs.lemmas.Bool.{eqb-false}
use Rattle.lists.specs.Tests.{both}
use Rattle.lists.specs.Lists.{bit, count, keep}
use Rattle.lists.specs.KeepLaws.{all_map, all_keep, count-keep, count-le, count_none, count_mono, all-has}
use Rattle.cover_spec.specs.Cover.{Edge, group, meta, of_group, State, turn, greatest, choice, start, cover}
use Rattle.cover_spec.specs.Order.{GroupOrder}
use Rattle.cover_spec.specs.TrimLaws.{iter}
use Rattle.cover_spec.proofs.ChoiceLaws.{Lex, lex_anti, greatest-max, greatest_lt, GroupsUnder}
use Rattle.cover_spec.proofs.CoverLaws.{Visited, begin, visited_trim, visited_turn, sound-run}
use Rattle.cover_spec.proofs.OneTrimLaws.{lean}
use Rattle.cover_spec.proofs.TakeLaws.{taken_by, takes}
use Rattle.cover_spec.proofs.RunLaws.{after_turns, after-trim, after_more, after_last}

-- Level top, place i: no group has more than top remaining edges, and those before place i have fewer.
module _ (n : ℕ) (o ord : ℕ → ℕ) where
  pub record GroupLevel (d : ℕ → ℕ) (top i : ℕ) : Type 0 where
    pub upper : (g : ℕ) → g < n → d g ≤ top
    pub passed : (j : ℕ) → j < i → d (ord j) < top

  level_start : (d : ℕ → ℕ) (top : ℕ) → ((g : ℕ) → g < n → d g ≤ top) → GroupLevel d top 0
  level_start d top h = record { upper = h; passed = λ j i. absurd (omega arith) }

  -- the group found is the choice
  level_choice : (d : ℕ → ℕ) (top i : ℕ) → GroupOrder n o ord → GroupLevel d top i → i < n → d (ord i) ≡ top → ord i ≡ greatest d o n
  level_choice d top i r h k e =
      lex_anti d o (ord i) c (greatest-max d o n (ord i) (r.below i k)) (le c (greatest_lt d o n (omega arith)))
    where
      c : ℕ
      c = greatest d o n

      le : (g : ℕ) → g < n → Lex d o g (ord i)
      le g b = (omega (arith, h.upper g b), later)
        where
          later : d g ≡ d (ord i) → (o g ≤ o (ord i)) × (o g ≡ o (ord i) → g ≤ ord i)
          later q =
              let (j, l, w) = r.holds g b in
              go j l w (ltb j i) refl
            where
              go : (j : ℕ) → j < n → ord j ≡ g → (t : Bool) → ltb j i ≡ t → (o g ≤ o (ord i)) × (o g ≡ o (ord i) → g ≤ ord i)
              go j l w true x = absurd (omega (arith, h.passed j (ltb-true j i x), ap d w))
              go j l w false x = subst (λ (y : ℕ). (o y ≤ o (ord i)) × (o y ≡ o (ord i) → y ≤ ord i)) w (r.falls i j (ltb-false j i x) l)

  -- a group passed by is below the level
  level_next : (d : ℕ → ℕ) (top i : ℕ) → GroupOrder n o ord → GroupLevel d top i → i < n → (d (ord i) ≡ top → ⊥) → GroupLevel d top (i + 1)
  level_next d top i r h k e = record { upper = h.upper; passed = λ j l. go j l (eqb j i) refl }
    where
      go : (j : ℕ) → j < i + 1 → (t : Bool) → eqb j i ≡ t → d (ord j) < top
      go j l true x = subst (λ (y : ℕ). d (ord y) < top) (sym (eqb-true j i x)) (below_top (d (ord i)) top (h.upper (ord i) (r.below i k)) e)
        where
          below_top : (a b : ℕ) → a ≤ b → (a ≡ b → ⊥) → a < b
          below_top a b u v = omega arith
      go j l false x = h.passed j (omega (arith, eqb-false j i x))

  -- a group taken has none left, and no other has more than before
  level_take : (d d' : ℕ → ℕ) (top i : ℕ) → GroupLevel d top i → 0 < top → ((g : ℕ) → d' g ≤ d g) → d' (ord i) ≡ 0 → GroupLevel d' top (i + 1)
  level_take d d' top i h z le e = record { upper = λ g b. omega (arith, h.upper g b, le g); passed = λ j l. go j l (eqb j i) refl }
    where
      go : (j : ℕ) → j < i + 1 → (t : Bool) → eqb j i ≡ t → d' (ord j) < top
      go j l true x = subst (λ (y : ℕ). d' (ord y) < top) (sym (eqb-true j i x)) (omega arith)
      go j l false x = omega (arith, h.passed j (omega (arith, eqb-false j i x)), le (ord j))

  -- behind a group with fewer original edges than the level there is none to take
  level_down : (d : ℕ → ℕ) (top i : ℕ) → GroupOrder n o ord → GroupLevel d (suc top) i → ((g : ℕ) → d g ≤ o g) → (i < n → o (ord i) < suc top) → GroupLevel d top 0
  level_down d top i r h le e = level_start d top low
    where
      low : (g : ℕ) → g < n → d g ≤ top
      low g b =
          let (j, l, w) = r.holds g b in
          subst (λ (y : ℕ). d y ≤ top) w (go j l (ltb j i) refl)
        where
          go : (j : ℕ) → j < n → (t : Bool) → ltb j i ≡ t → d (ord j) ≤ top
          go j l true x = omega (arith, h.passed j (ltb-true j i x))
          go j l false x =
              let y : i ≤ j = ltb-false j i x in
              omega (arith, le (ord j), (r.falls i j y l).0, e (omega arith))

-- ---- the run by levels

module _ (n : ℕ) (all : List Edge) where
  visited_after : (t : ℕ) → Visited n all (after_turns n all t)
  unfolding iter
  visited_after t = subst (Visited n all) (after-trim n all t) (visited_trim n all (iter (turn all n) t (start all)) (go t (start all) begin))
    where
      go : (k : ℕ) (s : State) → Visited n all s → Visited n all (iter (turn all n) k s)
      go zero s v = v
      go (suc k) s v = go k (turn all n s) (visited_turn n all s v)

  -- the remaining edges are those of the meta-peptides not covered
  pub after_lean : (t : ℕ) → (after_turns n all t).edges ≡ keep (λ e. not ((after_turns n all t).covered (meta e))) all
  after_lean t = lean n all (visited_after t)

  under_after : (t : ℕ) → GroupsUnder n all → GroupsUnder n (after_turns n all t).edges
  under_after t u = subst (λ (l : List Edge). GroupsUnder n l) (sym (after_lean t)) (all_keep (λ e. group e < n) (λ e. not ((after_turns n all t).covered (meta e))) all u)

  empty : (l : List Edge) → GroupsUnder n l → ((g : ℕ) → g < n → of_group g l ≤ 0) → length l ≡ 0
  empty [] u h = refl
  empty (e ∷ l) u h = absurd (omega (arith, h (group e) u.0, ap bit (eq-eqb (group e) (group e) refl)))

  abbrev pub degree : ℕ → ℕ
  degree g = of_group g all

  -- the remaining edges of the groups after t choices
  abbrev pub remaining : ℕ → ℕ → ℕ
  remaining t g = of_group g (after_turns n all t).edges

  keep_fewer : (p q : Edge → Bool) (l : List Edge) → count p (keep q l) ≤ count p l
  keep_fewer p q l = omega (arith, count-keep p q l, count_mono (λ e. q e && p e) p (λ e i. (both (q e) (p e) i).1) l)

  -- the group taken has no edges left
  take_none : (c : ℕ) (s : State) → of_group c (taken_by c s).edges ≡ 0
  unfolding taken_by takes
  take_none c s =
      count-keep (λ e. eqb (group e) c) (λ e. not (takes s.edges c (meta e))) s.edges
      ∙ count_none (λ e. not (takes s.edges c (meta e)) && eqb (group e) c) s.edges (all_map each s.edges (all-has s.edges))
    where
      each : (e : Edge) → ((p : Edge → Bool) → p e ≡ true → 0 < count p s.edges) → (not (takes s.edges c (meta e)) && eqb (group e) c) ≡ false
      each e h = go (eqb (group e) c) refl
        where
          go : (b : Bool) → eqb (group e) c ≡ b → (not (takes s.edges c (meta e)) && b) ≡ false
          go true i = rw (lt-ltb 0 (count (λ d. eqb (meta d) (meta e) && eqb (group d) c) s.edges) (h (λ d. eqb (meta d) (meta e) && eqb (group d) c) (rw (eq-eqb (meta e) (meta e) refl, i))))
          go false i = and-false (not (takes s.edges c (meta e)))

  take_fewer : (c g : ℕ) (s : State) → of_group g (taken_by c s).edges ≤ of_group g s.edges
  unfolding taken_by
  take_fewer c g s = keep_fewer (λ e. eqb (group e) g) (λ e. not (takes s.edges c (meta e))) s.edges

  -- where the run after t choices stands at a level, the group found is taken
  abbrev pub At : (ℕ → ℕ) → ℕ → ℕ → ℕ → Type 0
  At ord t top i = GroupLevel n degree ord (remaining t) top i

  fewer : (t : ℕ) (g : ℕ) → remaining t g ≤ degree g
  fewer t g = (sound-run n all (visited_after t)).fewer (λ e. eqb (group e) g)

  module _ (ord : ℕ → ℕ) (r : GroupOrder n degree ord) where
    pub found_choice : (t top i : ℕ) → At ord t (suc top) i → i < n → remaining t (ord i) ≡ suc top
        → (after_turns n all (suc t) ≡ taken_by (ord i) (after_turns n all t)) × At ord (suc t) (suc top) (i + 1)
    found_choice t top i h k e = (same, at_next)
      where
        s : State
        s = after_turns n all t

        c : ord i ≡ choice all s.edges n
        c = level_choice n degree ord (remaining t) (suc top) i r h k e

        same : after_turns n all (suc t) ≡ taken_by (ord i) s
        same = after_more n all t (omega (arith, count-le (λ d. eqb (group d) (ord i)) s.edges)) ∙ ap (λ (x : ℕ). taken_by x s) (sym c)

        at_next : At ord (suc t) (suc top) (i + 1)
        at_next = level_take n degree ord (remaining t) (remaining (suc t)) (suc top) i h (omega arith)
            (λ g. subst (λ (u : State). of_group g u.edges ≤ of_group g s.edges) (sym same) (take_fewer (ord i) g s))
            (ap (λ (u : State). of_group (ord i) u.edges) same ∙ take_none (ord i) s)

    pub passed-by : (t top i : ℕ) → At ord t top i → i < n → (remaining t (ord i) ≡ top → ⊥) → At ord t top (i + 1)
    passed-by t top i h k e = level_next n degree ord (remaining t) top i r h k e

    pub down : (t top i : ℕ) → At ord t (suc top) i → (i < n → degree (ord i) < suc top) → At ord t top 0
    down t top i h e = level_down n degree ord (remaining t) top i r h (fewer t) e

    pub at-start : (top : ℕ) → ((g : ℕ) → g < n → degree g ≤ top) → At ord 0 top 0
    at-start top h = level_start n degree ord (remaining 0) top (λ g b. omega (arith, fewer 0 g, h g b))

    pub at_end : GroupsUnder n all → (t i : ℕ) → At ord t 0 i → (g : ℕ) → (after_turns n all t).marked g ≡ cover n all g
    at_end u t i h g = after_last n all u t (empty (after_turns n all t).edges (under_after t u) (λ x b. h.upper x b)) g
