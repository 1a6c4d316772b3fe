-- The cover inside a closed set of groups and meta-peptides depends on the edges inside it alone. Assumes nothing.
use Rattle.std.specs.Prelude.{Bool, ◌&&◌, ◌||◌, List, [], ◌∷◌, ◌≡◌}
use Rattle.std.proofs.Math.Bool.{true, false, and-false}
use Rattle.std.proofs.Common.{true≢false, ◌∙◌, arith, eqb-true}
use Prim.Native.Nat.{ℕ, zero, suc, ◌≤◌, ◌<◌}
use Rattle.std.proofs.Math.Dec.{eqb}
use Rattle.std.proofs.Math.ListN.{length}
use Rattle.std.proofs.Math.Path.{refl, sym, ap, subst}
use Rattle.std.proofs.lemmas.Bool.{eqb-false}
use Rattle.lists.specs.Lists.{count, All}
use Rattle.lists.specs.Tests.{and_within}
use Rattle.lists.specs.KeepLaws.{count_ext, length-count, count-le, count_none}
use Rattle.cover_spec.specs.Cover.{Edge, group, of_group, State, pass, trim, choice, mark, choose, turn, start, cover}
use Rattle.cover_spec.proofs.PartLaws.{Closed, Part, part-pass}
use Rattle.cover_spec.specs.TrimLaws.{iter, trim-iter, trim-le}
use Rattle.cover_spec.proofs.ChoiceLaws.{Lex, lex_anti, lex_cast, greatest_lt, greatest-max, GroupsUnder, choice-has}
use Rattle.cover_spec.proofs.TurnLaws.{under_trim, turn-empty, turn-choose, turn-trim, turns-iter, under_turn, turns_end, same_end}

abbrev remaining : List Edge → ℕ → ℕ
remaining l g = of_group g l

module _ (sg sm : ℕ → Bool) where
  part_length : (s t : State) → Part sg sm s t → length t.edges ≤ length s.edges
  part_length s t h =
      omega (arith, length-count t.edges, h.edges (λ e. true), count-le (λ e. sg (group e) && true) s.edges)

  pub part-trim : (s t : State) → Part sg sm s t → Part sg sm (trim s) (trim t)
  unfolding iter
  part-trim s t h =
      rw (← trim-iter (length s.edges) s (omega arith), ← trim-iter (length s.edges) t (part_length s t h)) (go (length s.edges) s t h)
    where
      go : (k : ℕ) (u v : State) → Part sg sm u v → Part sg sm (iter pass k u) (iter pass k v)
      go zero u v p = p
      go (suc k) u v p = go k (pass u) (pass v) (part-pass sg sm u v p)

  inner : (S T : List Edge) → ((p : Edge → Bool) → count (λ e. sg (group e) && p e) S ≡ count p T) → (g : ℕ) → sg g ≡ true → of_group g S ≡ of_group g T
  inner S T h g i = count_ext (λ e. eqb (group e) g) (λ e. sg (group e) && eqb (group e) g) S (each S) ∙ h (λ e. eqb (group e) g)
    where
      each : (l : List Edge) → All (λ e. eqb (group e) g ≡ (sg (group e) && eqb (group e) g)) l
      each [] = tt
      each (e ∷ l) = (and_within (sg (group e)) (eqb (group e) g) (λ q. ap sg (eqb-true (group e) g q) ∙ i), each l)

  -- a group outside holds no edge of the inner list
  outer : (S T : List Edge) → ((p : Edge → Bool) → count (λ e. sg (group e) && p e) S ≡ count p T) → (g : ℕ) → sg g ≡ false → of_group g T ≡ 0
  outer S T h g i = sym (h (λ e. eqb (group e) g)) ∙ count_none (λ e. sg (group e) && eqb (group e) g) S (each S)
    where
      one : (e : Edge) (b : Bool) → eqb (group e) g ≡ b → (sg (group e) && b) ≡ false
      one e true q = rw (eqb-true (group e) g q, i)
      one e false q = and-false (sg (group e))

      each : (l : List Edge) → All (λ e. (sg (group e) && eqb (group e) g) ≡ false) l
      each [] = tt
      each (e ∷ l) = (one e (eqb (group e) g) refl, each l)

  module _ (n : ℕ) (S T : List Edge) (split : (p : Edge → Bool) → count (λ e. sg (group e) && p e) S ≡ count p T) where
    -- a choice inside is the choice of the inner run
    same-choice : (s t : State) → Part sg sm s t → GroupsUnder n s.edges → 0 < length s.edges → sg (choice S s.edges n) ≡ true
        → choice T t.edges n ≡ choice S s.edges n
    same-choice s t h u z i = go (sg c') refl
      where
        c : ℕ
        c = choice S s.edges n

        c' : ℕ
        c' = choice T t.edges n

        few : (m : ℕ) (l : List Edge) → GroupsUnder m l → 0 < length l → 0 < m
        few m [] v y = absurd (omega arith)
        few m (e ∷ l) v y = omega (arith, v.0)

        pos : 0 < n
        pos = few n s.edges u z

        top : Lex (remaining t.edges) (remaining T) c c'
        top = greatest-max (remaining t.edges) (remaining T) n c (greatest_lt (remaining s.edges) (remaining S) n pos)

        has : 0 < of_group c' t.edges
        has = omega (arith, choice-has S s.edges n u z, inner s.edges t.edges h.edges c i, top.0)

        go : (b : Bool) → sg c' ≡ b → c' ≡ c
        go true j =
            lex_anti (remaining s.edges) (remaining S) c' c
            (greatest-max (remaining s.edges) (remaining S) n c' (greatest_lt (remaining t.edges) (remaining T) n pos))
            (lex_cast (remaining t.edges) (remaining T) (remaining s.edges) (remaining S) c c'
            (sym (inner s.edges t.edges h.edges c i)) (sym (inner s.edges t.edges h.edges c' j))
            (sym (inner S T split c i)) (sym (inner S T split c' j)) top)
        go false j = absurd (omega (arith, outer s.edges t.edges h.edges c' j, has))

    part-mark : (s t : State) → Part sg sm s t → (g : ℕ) → Part sg sm (mark g s) (mark g t)
    unfolding mark
    part-mark s t h g = record { closed = h.closed; edges = h.edges; marks = λ k i. rw (h.marks k i); covers = h.covers }

    part-mark_outside : (s t : State) → Part sg sm s t → (g : ℕ) → sg g ≡ false → Part sg sm (mark g s) t
    unfolding mark
    part-mark_outside s t h g o = record { closed = h.closed; edges = h.edges; marks = λ k i. go k i (eqb k g) refl ∙ h.marks k i; covers = h.covers }
      where
        go : (k : ℕ) → sg k ≡ true → (b : Bool) → eqb k g ≡ b → (b || s.marked k) ≡ s.marked k
        go k i true e = absurd (true≢false (sym i ∙ ap sg (eqb-true k g e) ∙ o))
        go k i false e = refl

    abbrev Ends : State → (ℕ → Bool) → Type 0
    Ends t m = (j : ℕ) × (length (iter (turn T n) j t).edges ≡ 0) × ((g : ℕ) → sg g ≡ true → m g ≡ (iter (turn T n) j t).marked g)

    ends_turn : (t : State) (m : ℕ → Bool) → Ends (turn T n t) m → Ends t m
    unfolding iter
    ends_turn t m (j, z, e) = (suc j, z, e)

    ends_trim : (t : State) (m : ℕ → Bool) → Ends (trim t) m → Ends t m
    unfolding iter
    ends_trim t m (zero, z, e) = (1, rw (turn-empty T n t z) z, rw (turn-empty T n t z) e)
    ends_trim t m (suc j, z, e) =
        let q : iter (turn T n) j (turn T n (trim t)) ≡ iter (turn T n) j (turn T n t) = ap (iter (turn T n) j) (turn-trim T n t) in
        (suc j, subst (λ (x : State). length x.edges ≡ 0) q z, λ g i. e g i ∙ ap (λ (x : State). x.marked g) q)

    ends : (k : ℕ) (s t : State) → Part sg sm s t → GroupsUnder n s.edges → length (iter (turn S n) k s).edges ≡ 0 → Ends t (iter (turn S n) k s).marked
    unfolding iter choose
    ends zero s t h u z = (0, omega (arith, part_length s t h), h.marks)
    ends (suc k) s t h u z = go (eqb (length (trim s).edges) 0) refl (λ v p. ends k (turn S n s) v p (under_turn S n s u) z)
      where
        p : Part sg sm (trim s) (trim t)
        p = part-trim s t h

        go : (b : Bool) → eqb (length (trim s).edges) 0 ≡ b
            → ((v : State) → Part sg sm (turn S n s) v → Ends v (iter (turn S n) k (turn S n s)).marked) → Ends t (iter (turn S n) k (turn S n s)).marked
        go true i r =
            let y : length (trim s).edges ≡ 0 = eqb-true (length (trim s).edges) 0 i in
            let x : length (trim t).edges ≡ 0 = omega (arith, part_length (trim s) (trim t) p) in
            ends_turn t _ (r (turn T n t) (rw (turn-empty S n s y, turn-empty T n t x) p))
        go false i r =
            let y : 0 < length (trim s).edges = omega (arith, eqb-false (length (trim s).edges) 0 i) in
            side y (sg (choice S (trim s).edges n)) refl
          where
            side : 0 < length (trim s).edges → (c : Bool) → sg (choice S (trim s).edges n) ≡ c → Ends t (iter (turn S n) k (turn S n s)).marked
            side y true j =
                let g : ℕ = choice S (trim s).edges n in
                let e : choice T (trim t).edges n ≡ choice S (trim s).edges n = same-choice (trim s) (trim t) p (under_trim n s u) y j in
                let x : 0 < length (trim t).edges =
                omega (arith, choice-has S (trim s).edges n (under_trim n s u) y, inner (trim s).edges (trim t).edges p.edges g j, count-le (λ e. eqb (group e) g) (trim t).edges) in
                ends_turn t _ (r (turn T n t) (rw (turn-choose S n s y, turn-choose T n t x, e) (part-mark (trim s) (trim t) p (choice S (trim s).edges n))))
            side y false j = ends_trim t _ (r (trim t) (rw (turn-choose S n s y) (part-mark_outside (trim s) (trim t) p (choice S (trim s).edges n) j)))

    -- LOCALITY: where no edge of S leaves the set and T holds the edges of S inside it, in whatever order, the two covers agree inside it
    pub cover_local : Closed sg sm S → GroupsUnder n S → GroupsUnder n T → (g : ℕ) → sg g ≡ true → cover n S g ≡ cover n T g
    unfolding cover
    cover_local c u v g i =
        let h : Part sg sm (start S) (start T) = record { closed = c; edges = split; marks = λ k j. refl; covers = λ k j. refl } in
        let (j, z, e) = ends (suc (length S)) (start S) (start T) h u (turns_end S n (length S) (start S) u (trim-le (start S))) in
        ap (λ (x : State). x.marked g) (turns-iter S n (suc (length S)) (start S))
        ∙ e g i
        ∙ ap (λ (x : State). x.marked g) (same_end T n j (suc (length T)) (start T) z (turns_end T n (length T) (start T) v (trim-le (start T))))
        ∙ sym (ap (λ (x : State). x.marked g) (turns-iter T n (suc (length T)) (start T)))
