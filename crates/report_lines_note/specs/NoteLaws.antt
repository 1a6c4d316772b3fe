-- Laws of notes: one number or one member more. Assumes nothing.
use Rattle.std.specs.Prelude.{ℕ, suc, ◌+◌, ◌≤◌, ◌<◌, ◌≡◌, refl, Bool, true, false, cond, ◌&&◌, List, [], ◌∷◌, ◌++◌, map, eqb, ltb, length, get_or, take, set}
use Rattle.std.proofs.Common.{arith, add-one, zero-add, sym, ap, ◌∙◌, inl, ⊎_elim, eq-eqb, ne_eqb, lt-ltb, take-suc, take_all, get_or-set_same, get_or-set_other}
use Rattle.std.proofs.lemmas.List.{map-append}
use Rattle.lists.specs.KeepLaws.{keep_append}
use Rattle.lists.specs.Tests.{same?, flag_is_one}
use Rattle.lists.specs.Lists.{up_from, keep, occurs}
use Rattle.lists.specs.RowLaws.{up-snoc}
use Rattle.lists.specs.FrameLaws.{framed_none, framed_then, framed_set}
use Rattle.protein_groups_members.specs.Members.{Member, member_at}
use Rattle.report_lines_spec.specs.Line.{in_group, holds, applies}
use Rattle.report_lines_note.specs.Noting.{first_members, ListNoted, applies_by, Flagged}

-- ---- one more at the end

pub first_more : (bytes : List ℕ) (i : ℕ) → first_members bytes (i + 1) ≡ first_members bytes i ++ (member_at bytes i ∷ [])
first_more bytes i =
    ap (first_members bytes) (add-one i)
    ∙ ap (map (member_at bytes)) (up-snoc 0 i ∙ ap (λ (x : ℕ). up_from 0 i ++ (x ∷ [])) (zero-add i))
    ∙ map-append (member_at bytes) (up_from 0 i) (i ∷ [])

pub has_more : (k x : ℕ) (xs : List ℕ) → occurs k (xs ++ (x ∷ [])) ≡ cond (eqb x k) true (occurs k xs)
has_more k x [] = refl
has_more k x (y ∷ ys) = go (eqb y k) (eqb x k) (has_more k x ys)
  where
    go : (t u : Bool) → occurs k (ys ++ (x ∷ [])) ≡ cond u true (occurs k ys) → cond t true (occurs k (ys ++ (x ∷ []))) ≡ cond u true (cond t true (occurs k ys))
    go true true h = refl
    go true false h = refl
    go false u h = h

-- ---- the list

pub list_none : (list w : List ℕ) (c : ℕ) → ((p : ℕ) → p < c → get_or w p 0 ≡ 0) → ListNoted (take 0 list) w w c
list_none list w c z = record { notes = z; rest = framed_none 0 c w }

pub list_more : (list w₀ w : List ℕ) (c i : ℕ) → i < length list → get_or list i 0 < c → c ≤ length w → ListNoted (take i list) w₀ w c
    → ListNoted (take (i + 1) list) w₀ (set w (get_or list i 0) 1) c
list_more list w₀ w c i l h k r = record {
  notes = λ p f. rw (add-one i, take-suc list i 0 l, has_more p (get_or list i 0) (take i list)) (⊎_elim (same p f) (other p f) (same? p (get_or list i 0)));
  rest = framed_then 0 c w₀ w (set w (get_or list i 0) 1) r.rest (framed_set 0 c (get_or list i 0) 1 w (omega arith) h);
}
  where
    Goal : ℕ → Type 0
    Goal p = get_or (set w (get_or list i 0) 1) p 0 ≡ cond (cond (eqb (get_or list i 0) p) true (occurs p (take i list))) 1 0

    same : (p : ℕ) → p < c → p ≡ get_or list i 0 → Goal p
    same p f e = rw (e, eq-eqb (get_or list i 0) (get_or list i 0) refl) (get_or-set_same w (get_or list i 0) 1 0 (omega arith))

    other : (p : ℕ) → p < c → (p ≡ get_or list i 0 → ⊥) → Goal p
    other p f e = rw (ne_eqb (get_or list i 0) p (λ z. e (sym z))) (get_or-set_other w (get_or list i 0) p 1 0 e ∙ r.notes p f)

pub list_all : (list w₀ w : List ℕ) (c i : ℕ) → length list ≤ i → ListNoted (take i list) w₀ w c → ListNoted list w₀ w c
list_all list w₀ w c i h r = rw (take_all i list h) at r

-- ---- the groups

ltb_nil : (t : Bool) (m : Member) → ltb 0 (length (cond t (m ∷ []) [])) ≡ t
ltb_nil true m = refl
ltb_nil false m = refl

some : (n : ℕ) → ltb 0 (suc n) ≡ true
some n = lt-ltb 0 (suc n) (omega arith)

ltb_or : (a b : List Member) → ltb 0 (length (a ++ b)) ≡ cond (ltb 0 (length b)) true (ltb 0 (length a))
ltb_or [] [] = refl
ltb_or [] (y ∷ ys) = rw (some (length ys))
ltb_or (x ∷ xs) [] = rw (some (length (xs ++ [])), some (length xs))
ltb_or (x ∷ xs) (y ∷ ys) = rw (some (length (xs ++ y ∷ ys)), some (length ys))

module _ (ms : List Member) (m : Member) (marks list : List ℕ) (decoy : Bool) where
  abbrev one : ℕ → List Member
  one g = keep (holds list decoy) (in_group (m ∷ []) g)

  one_is : (g : ℕ) → ltb 0 (length (one g)) ≡ (eqb m.group g && holds list decoy m)
  one_is g = go (eqb m.group g)
    where
      go : (t : Bool) → ltb 0 (length (keep (holds list decoy) (cond t (m ∷ []) []))) ≡ (t && holds list decoy m)
      go true = ltb_nil (holds list decoy m) m
      go false = refl

  applies-more : (g : ℕ) → applies (ms ++ (m ∷ [])) marks list decoy g
      ≡ (eqb (get_or marks g 0) 1 && cond (eqb m.group g && holds list decoy m) true (ltb 0 (length (keep (holds list decoy) (in_group ms g)))))
  applies-more g =
      ap (λ (t : Bool). eqb (get_or marks g 0) 1 && t)
      (ap (λ (l : List Member). ltb 0 (length (keep (holds list decoy) l))) (keep_append (λ (x : Member). eqb x.group g) ms (m ∷ []))
      ∙ ap (λ (l : List Member). ltb 0 (length l)) (keep_append (holds list decoy) (in_group ms g) (in_group (m ∷ []) g))
      ∙ ltb_or (keep (holds list decoy) (in_group ms g)) (one g)
      ∙ ap (λ (t : Bool). cond t true (ltb 0 (length (keep (holds list decoy) (in_group ms g))))) (one_is g))

pub flag_none : (marks list w : List ℕ) (decoy : Bool) (c m : ℕ) → ((g : ℕ) → g < m → get_or w (c + g) 0 ≡ 0) → Flagged [] marks list decoy w w c m
flag_none marks list w decoy c m z = record {
  flags = λ g h. z g h ∙ go (eqb (get_or marks g 0) 1);
  rest = framed_none c (c + m) w;
}
  where
    go : (t : Bool) → ◌≡◌ {A = ℕ} 0 (cond (t && ltb 0 (length {A = Member} [])) 1 0)
    go true = refl
    go false = refl

-- one member more, which the code tests by the notes of the list
pub flag_more : (ms : List Member) (x : Member) (marks list : List ℕ) (decoy : Bool) (w₀ w : List ℕ) (c m : ℕ) → x.group < m → x.protein < c → c + m ≤ length w
    → ((p : ℕ) → p < c → get_or w p 0 ≡ cond (occurs p list) 1 0) → Flagged ms marks list decoy w₀ w c m
    → Flagged (ms ++ (x ∷ [])) marks list decoy w₀ (set w (c + x.group) (cond (applies_by decoy marks w x) 1 (get_or w (c + x.group) 0))) c m
flag_more ms x marks list decoy w₀ w c m inside low fits notes r = record {
  flags = λ g h. ⊎_elim (same g h) (other g h) (same? g x.group);
  rest = framed_then c (c + m) w₀ w (set w (c + x.group) v) r.rest (framed_set c (c + m) (c + x.group) v w (omega arith) (omega arith));
}
  where
    v : ℕ
    v = cond (applies_by decoy marks w x) 1 (get_or w (c + x.group) 0)

    pick : (f n k : Bool) (rest : Bool) (old : ℕ) → old ≡ cond (k && rest) 1 0 → cond (f && n && k) 1 old ≡ cond (k && cond (f && n) true rest) 1 0
    pick true true true rest old h = refl
    pick true true false rest old h = h
    pick true false true rest old h = h
    pick true false false rest old h = h
    pick false n true rest old h = h
    pick false n false rest old h = h

    same : (g : ℕ) → g < m → g ≡ x.group → get_or (set w (c + x.group) v) (c + g) 0 ≡ cond (applies (ms ++ (x ∷ [])) marks list decoy g) 1 0
    same g h e =
        rw (e, applies-more ms x marks list decoy x.group, eq-eqb x.group x.group refl)
        (get_or-set_same w (c + x.group) v 0 (omega arith)
        ∙ ap (λ (t : Bool). cond (eqb x.decoy (cond decoy 1 0) && t && eqb (get_or marks x.group 0) 1) 1 (get_or w (c + x.group) 0)) (ap (λ (y : ℕ). eqb y 1) (notes x.protein low) ∙ flag_is_one (occurs x.protein list))
        ∙ pick (eqb x.decoy (cond decoy 1 0)) (occurs x.protein list) (eqb (get_or marks x.group 0) 1) (ltb 0 (length (keep (holds list decoy) (in_group ms x.group)))) (get_or w (c + x.group) 0) (r.flags x.group inside))

    other : (g : ℕ) → g < m → (g ≡ x.group → ⊥) → get_or (set w (c + x.group) v) (c + g) 0 ≡ cond (applies (ms ++ (x ∷ [])) marks list decoy g) 1 0
    other g h e =
        rw (applies-more ms x marks list decoy g, ne_eqb x.group g (λ z. e (sym z)))
        (get_or-set_other w (c + x.group) (c + g) v 0 (λ (z : c + g ≡ c + x.group). e (omega arith)) ∙ r.flags g h)

-- a turn of the code
pub flag_turn : (bytes : List ℕ) (i : ℕ) (marks list : List ℕ) (decoy : Bool) (w₀ w x : List ℕ) (c m : ℕ) → (member_at bytes i).group < m → (member_at bytes i).protein < c → c + m ≤ length w
    → ((p : ℕ) → p < c → get_or w₀ p 0 ≡ cond (occurs p list) 1 0)
    → x ≡ set w (c + (member_at bytes i).group) (cond (applies_by decoy marks w (member_at bytes i)) 1 (get_or w (c + (member_at bytes i).group) 0))
    → Flagged (first_members bytes i) marks list decoy w₀ w c m → Flagged (first_members bytes (i + 1)) marks list decoy w₀ x c m
flag_turn bytes i marks list decoy w₀ w x c m inside low fits notes e r =
    rw (e, first_more bytes i) (flag_more (first_members bytes i) (member_at bytes i) marks list decoy w₀ w c m inside low fits (λ p h. r.rest p (inl h) ∙ notes p h) r)
