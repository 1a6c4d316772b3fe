-- Groups that stand as stretches: the line that the code reads off is document 01's. Assumes nothing.
use Rattle.std.specs.Prelude.{ℕ, zero, suc, ◌+◌, ◌-◌, ◌*◌, ◌/◌, ◌%◌, ◌≤◌, ◌<◌, ◌≡◌, refl, Bool, true, false, cond, ◌&&◌, ltb, eqb, get_or, take, drop, replicate}
use Rattle.std.proofs.Common.{sym, ◌∙◌, ⊎_elim, arith, add-one, ltb-true, lt-ltb, le-ltb, eq-eqb, ne_eqb, length-append, length-take, length-drop, take_all, take-take, drop_at, get_or-take, get_or-drop, ext_get_or, length-take-le, get_or-append-add}
use Rattle.std.proofs.Math.Path.{ap}
use mathlib.Core.List.{List, [], ◌∷◌, ◌++◌, flatten, map, map-map}
use Rattle.std.proofs.Math.ListN.{length, get_or-append}
use Rattle.std.proofs.lemmas.List.{length-map, get_or-replicate}
use Rattle.lists.specs.Tests.{below?, both, truth?}
use Rattle.lists.specs.Lists.{up_from, keep}
use Rattle.lists.specs.RowLaws.{up_in}
use Rattle.lists.specs.InLaws.{keep-alike, keep_in, map-alike}
use Rattle.lists.specs.KeepLaws.{keep-length}
use Rattle.sorting_spec.specs.Sort.{insert, sorted}
use Rattle.sorting_spec.specs.SortLaws.{length-sorted, sorted-map}
use Rattle.sorting_spec.specs.Lex.{lex_le}
use Rattle.sorting_spec.specs.Joined.{until_zero, name_of, join}
use Rattle.sorting_texts.specs.Text.{entry_text}
use Rattle.sorting_spec.specs.PartLaws.{at_slice}
use Rattle.sorting_texts.specs.EntryLaws.{ZeroFree, until-padded}
use Rattle.protein_groups_members.specs.Members.{Member}
use Rattle.report_lines_spec.specs.Line.{tagged, in_group, group_text, holds, applies, applying, line_text, line_count}
use Rattle.report_lines_spec.specs.StretchLaws.{length-keys}
use Rattle.report_lines_spec.specs.Stretches.{entry, tag_keys, by_text, gathered_of, stretch_of, Stretched}
use Rattle.report_lines_write.specs.Laid.{bound_in, stretch_in, some_in, somes, text_in, line_in, count_in, StretchesLaid}
use Rattle.report_lines_write.specs.ListLaws.{flat_up}
use Rattle.report_lines_write.specs.TextLaws.{Evens, flat_front}

-- ---- the tag among the keys

-- no more than 16 visible bytes
pub record Tag (tag : List ℕ) : Type 0 where
  pub short : length tag ≤ 16
  pub shown : (i : ℕ) → i < length tag → (33 ≤ get_or tag i 0) × (get_or tag i 0 ≤ 126)

tag-whole : (tag : List ℕ) → Tag tag → ZeroFree tag
tag-whole tag t i h e = omega (arith, (t.shown i h).0)

keys-small : (tag : List ℕ) → Tag tag → (i : ℕ) → i < 16 → get_or (tag_keys tag) i 0 < 256
keys-small tag t i h = ⊎_elim inside outside (below? i (length tag))
  where
    inside : i < length tag → get_or (tag_keys tag) i 0 < 256
    inside p = rw (get_or-append tag (replicate (16 - length tag) 0) 0 i p) (omega (arith, (t.shown i p).1))

    outside : length tag ≤ i → get_or (tag_keys tag) i 0 < 256
    outside p =
        let e : i ≡ length tag + (i - length tag) = omega arith in
        let z : get_or (tag_keys tag) i 0 ≡ 0 =
        ap (λ (k : ℕ). get_or (tag_keys tag) k 0) e
        ∙ get_or-append-add tag (replicate (16 - length tag) 0) (i - length tag) 0
        ∙ get_or-replicate (16 - length tag) (i - length tag) 0 0 (omega (arith, t.short)) in
        omega (arith, z)

-- ---- entries

evens_append : (xs ys : List ℕ) → Evens xs → Evens ys → Evens (xs ++ ys)
evens_append [] ys p q = q
evens_append (x ∷ xs) ys p q = (p.0, evens_append xs ys p.1 q)

evens_insert : (le : ℕ → ℕ → Bool) (x : ℕ) (s : List ℕ) → x % 2 ≡ 0 → Evens s → Evens (insert le x s)
evens_insert le x [] p q = (p, tt)
evens_insert le x (y ∷ ys) p q = go (le x y) (evens_insert le x ys p q.1)
  where
    go : (t : Bool) → Evens (insert le x ys) → Evens (cond t (x ∷ y ∷ ys) (y ∷ insert le x ys))
    go true r = (p, q)
    go false r = (q.0, r)

evens_sorted : (le : ℕ → ℕ → Bool) (s : List ℕ) → Evens s → Evens (sorted le s)
evens_sorted le [] p = tt
evens_sorted le (x ∷ xs) p = evens_insert le x (sorted le xs) p.0 (evens_sorted le xs p.1)

evens_at : (xs : List ℕ) → Evens xs → (i : ℕ) → i < length xs → get_or xs i 0 % 2 ≡ 0
evens_at [] p i h = absurd (omega arith)
evens_at (x ∷ xs) p zero h = p.0
evens_at (x ∷ xs) p (suc i) h = evens_at xs p.1 i (omega arith)

evens_entries : (generated : Bool) (ms : List Member) → Evens (map (entry generated) ms)
evens_entries generated [] = tt
evens_entries generated (m ∷ ms) = (go (generated && eqb m.decoy 1), evens_entries generated ms)
  where
    go : (t : Bool) → (4 * m.protein + cond t 2 0) % 2 ≡ 0
    go true = omega arith
    go false = omega arith

evens_flat : (f : ℕ → List ℕ) (xs : List ℕ) → ((x : ℕ) → Evens (f x)) → Evens (flatten (map f xs))
unfolding flatten
evens_flat f [] h = tt
evens_flat f (x ∷ xs) h = evens_append (f x) (flatten (map f xs)) (h x) (evens_flat f xs h)

-- an entry reads as the member's name, tag included
entry-reads : (names tag : List ℕ) (generated : Bool) (m : Member)
    → cond (eqb (entry generated m / 2 % 2) 1) tag [] ++ until_zero (name_of names (entry generated m / 4)) ≡ tagged names tag generated m
entry-reads names tag generated m = go (generated && eqb m.decoy 1)
  where
    go : (t : Bool) → cond (eqb ((4 * m.protein + cond t 2 0) / 2 % 2) 1) tag [] ++ until_zero (name_of names ((4 * m.protein + cond t 2 0) / 4)) ≡ cond t tag [] ++ until_zero (name_of names m.protein)
    go true =
        let a : (4 * m.protein + 2) / 2 % 2 ≡ 1 = omega arith in
        let b : (4 * m.protein + 2) / 4 ≡ m.protein = omega arith in
        rw (b, eq-eqb ((4 * m.protein + 2) / 2 % 2) 1 a)
    go false =
        let a : (4 * m.protein + 0) / 2 % 2 ≡ 0 = omega arith in
        let b : (4 * m.protein + 0) / 4 ≡ m.protein = omega arith in
        rw (b, ne_eqb ((4 * m.protein + 0) / 2 % 2) 1 (λ (z : (4 * m.protein + 0) / 2 % 2 ≡ 1). omega arith))

-- ---- stretches

take-up : (f : ℕ → List ℕ) (a k g : ℕ) → g ≤ k → take g (map f (up_from a k)) ≡ map f (up_from a g)
take-up f a k zero h = refl
take-up f a zero (suc g) h = absurd (omega arith)
take-up f a (suc k) (suc g) h = ap (λ (l : List (List ℕ)). f a ∷ l) (take-up f (suc a) k g (omega arith))

module _ (names : List ℕ) (ms : List Member) (marks list : List ℕ) (decoy : Bool) (tag : List ℕ) (generated : Bool) (w : List ℕ) (c : ℕ)
    (s : Stretched names ms marks list decoy tag generated w c) (few : c ≤ 131072) (t : Tag tag) where
  abbrev st : ℕ → List ℕ
  st = stretch_of names ms marks list decoy tag generated

  abbrev flat : ℕ → List ℕ
  flat k = flatten (map (stretch_of names ms marks list decoy tag generated) (up_from 0 k))

  bound_is : (g : ℕ) → g ≤ length marks → bound_in w (2 * c + 16) g ≡ length (flat g)
  bound_is g h = s.bounds g h ∙ ap (λ (l : List (List ℕ)). length (flatten l)) (take-up st 0 (length marks) g h)

  first_is : bound_in w (2 * c + 16) 0 ≡ 0
  unfolding flatten
  first_is = bound_is 0 (omega arith)

  adds : (g : ℕ) → g < length marks → bound_in w (2 * c + 16) g + length (st g) ≡ bound_in w (2 * c + 16) (g + 1)
  adds g h =
      let e : length (flat (g + 1)) ≡ length (flat g) + length (st g) = ap (λ (k : ℕ). length (flat k)) (add-one g) ∙ ap length (flat_up st g) ∙ length-append (flat g) (st g) in
      omega (arith, bound_is g (omega arith), bound_is (g + 1) (omega arith))

  evens_stretch : (g : ℕ) → Evens (st g)
  evens_stretch g = evens_sorted (by_text names tag) (gathered_of names ms marks list decoy tag generated g) (go (applies ms marks list decoy g))
    where
      go : (b : Bool) → Evens (cond b (map (entry generated) (in_group ms g)) [])
      go true = evens_entries generated (in_group ms g)
      go false = tt

  tag_there : (i : ℕ) → i < 16 → get_or w (2 * c + i) 0 ≡ get_or (tag_keys tag) i 0
  tag_there i h = sym (at_slice (2 * c) (2 * c + 16) w i (omega arith)) ∙ ap (λ (l : List ℕ). get_or l i 0) s.tagged

  -- THE LAW of how they stand
  pub stretched_laid : StretchesLaid w c (length marks)
  stretched_laid = record {
    long = s.long;
    few = few;
    fit = s.groups_fit;
    first = first_is;
    rising = λ g h. omega (arith, adds g h);
    within = omega (arith, bound_is (length marks) (omega arith), s.entries_fit);
    even = λ i h.
        let k : i < length (flat (length marks)) = omega (arith, bound_is (length marks) (omega arith)) in
        let e : get_or w i 0 ≡ get_or (flat (length marks)) i 0 = sym (get_or-take (length (flat (length marks))) w i 0 k) ∙ ap (λ (l : List ℕ). get_or l i 0) s.listed in
        rw e (evens_at (flat (length marks)) (evens_flat st (up_from 0 (length marks)) evens_stretch) i k);
    small = λ i h. rw (tag_there i h) (keys-small tag t i h);
  }

  stretch_is : (g : ℕ) → g < length marks → stretch_in w (2 * c + 16) g ≡ st g
  stretch_is g h =
      let n : ℕ = length (flat (length marks)) in
      let hi : ℕ = bound_in w (2 * c + 16) (g + 1) in
      let e : g + 1 + (length marks - (g + 1)) ≡ length marks = omega arith in
      let fr : take hi (flat (length marks)) ≡ flat (g + 1) =
      ap (λ (k : ℕ). take hi (flat k)) (sym e) ∙ flat_front st (bound_in w (2 * c + 16)) first_is (length marks) adds (length marks - (g + 1)) (g + 1) (omega arith) in
      let up : hi ≤ n = omega (arith, ap length fr, length-take hi (flat (length marks)), bound_is (g + 1) (omega arith)) in
      let whole : take hi w ≡ flat g ++ st g = sym (take-take hi n w up) ∙ ap (take hi) s.listed ∙ fr ∙ ap flat (add-one g) ∙ flat_up st g in
      ap (drop (bound_in w (2 * c + 16) g)) whole ∙ drop_at (flat g) (st g) (bound_in w (2 * c + 16) g) (sym (bound_is g (omega arith)))

  some_is : (g : ℕ) → g < length marks → some_in w (2 * c + 16) g ≡ applies ms marks list decoy g
  some_is g h = ⊎_elim yes none (truth? (applies ms marks list decoy g))
    where
      long : length (st g) ≡ length (gathered_of names ms marks list decoy tag generated g)
      long = length-sorted (by_text names tag) (gathered_of names ms marks list decoy tag generated g)

      yes : applies ms marks list decoy g ≡ true → some_in w (2 * c + 16) g ≡ applies ms marks list decoy g
      yes a =
          let m : 0 < length (keep (holds list decoy) (in_group ms g)) = ltb-true 0 _ (both (eqb (get_or marks g 0) 1) (ltb 0 (length (keep (holds list decoy) (in_group ms g)))) a).1 in
          let k : length (gathered_of names ms marks list decoy tag generated g) ≡ length (in_group ms g) =
          ap (λ (b : Bool). length (cond b (map (entry generated) (in_group ms g)) [])) a ∙ length-map (in_group ms g) (entry generated) in
          lt-ltb (bound_in w (2 * c + 16) g) (bound_in w (2 * c + 16) (g + 1)) (omega (arith, adds g h, long, k, keep-length (holds list decoy) (in_group ms g))) ∙ sym a

      none : applies ms marks list decoy g ≡ false → some_in w (2 * c + 16) g ≡ applies ms marks list decoy g
      none a =
          let k : length (gathered_of names ms marks list decoy tag generated g) ≡ 0 = ap (λ (b : Bool). length (cond b (map (entry generated) (in_group ms g)) [])) a in
          le-ltb (bound_in w (2 * c + 16) g) (bound_in w (2 * c + 16) (g + 1)) (omega (arith, adds g h, long, k)) ∙ sym a

  somes_are : somes w (2 * c + 16) (length marks) ≡ applying ms marks list decoy
  somes_are = keep-alike (some_in w (2 * c + 16)) (applies ms marks list decoy) (up_from 0 (length marks)) (λ g i. some_is g (omega (arith, up_in g 0 (length marks) i)))

  -- both readings of the tag are the tag
  tag_in : until_zero (take 16 (drop (2 * c) w)) ≡ tag
  tag_in =
      ap until_zero
      (ext_get_or 0 (take 16 (drop (2 * c) w)) (tag_keys tag) (length-take-le 16 (drop (2 * c) w) (omega (arith, length-drop (2 * c) w, s.long)) ∙ sym (length-keys tag t.short))
      (λ i h.
      let k : i < 16 = omega (arith, length-take 16 (drop (2 * c) w)) in
      get_or-take 16 (drop (2 * c) w) i 0 k ∙ get_or-drop (2 * c) w i 0 ∙ tag_there i k))
      ∙ until-padded tag (16 - length tag) (tag-whole tag t)

  tag-keys : until_zero (take 16 (tag_keys tag)) ≡ tag
  tag-keys = ap until_zero (take_all 16 (tag_keys tag) (omega (arith, length-keys tag t.short))) ∙ until-padded tag (16 - length tag) (tag-whole tag t)

  abbrev reads : List ℕ → ℕ → List ℕ
  reads u x = cond (eqb (x / 2 % 2) 1) u [] ++ until_zero (name_of names (x / 4))

  text_is : (g : ℕ) → g < length marks → applies ms marks list decoy g ≡ true → text_in names w c g ≡ group_text names ms tag generated g
  text_is g h a =
      ap (λ (l : List ℕ). join 47 (map (entry_text names (drop (2 * c) w)) l)) (stretch_is g h)
      ∙ ap (λ (b : Bool). join 47 (map (entry_text names (drop (2 * c) w)) (sorted (by_text names tag) (cond b (map (entry generated) (in_group ms g)) [])))) a
      ∙ ap (λ (u : List ℕ). join 47 (map (reads u) (sorted (by_text names tag) (map (entry generated) (in_group ms g))))) tag_in
      ∙ ap (λ (u : List ℕ). join 47 (map (reads u) (sorted (by_text names tag) (map (entry generated) (in_group ms g))))) (sym tag-keys)
      ∙ ap (join 47) (sym (sorted-map lex_le (entry_text names (tag_keys tag)) (map (entry generated) (in_group ms g))))
      ∙ ap (λ (u : List ℕ). join 47 (sorted lex_le (map (reads u) (map (entry generated) (in_group ms g))))) tag-keys
      ∙ ap (λ (l : List (List ℕ)). join 47 (sorted lex_le l))
      (map-map (reads tag) (entry generated) (in_group ms g)
      ∙ map-alike (λ (m : Member). reads tag (entry generated m)) (tagged names tag generated) (in_group ms g) (λ m i. entry-reads names tag generated m))

  -- THE LAWS
  pub line_is : line_in names w c (length marks) ≡ line_text names ms marks list decoy tag generated
  unfolding line_in line_text
  line_is =
      ap (λ (l : List ℕ). join 59 (sorted lex_le (map (text_in names w c) l))) somes_are
      ∙ ap (λ (l : List (List ℕ)). join 59 (sorted lex_le l))
      (map-alike (text_in names w c) (group_text names ms tag generated) (applying ms marks list decoy)
      (λ g i. let k = keep_in g (applies ms marks list decoy) (up_from 0 (length marks)) i in text_is g (omega (arith, up_in g 0 (length marks) k.0)) k.1))

  pub count_is : count_in w c (length marks) ≡ line_count ms marks list decoy
  unfolding line_count
  count_is = ap length somes_are
