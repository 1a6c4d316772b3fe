-- A text written number by number, and texts joined by `;`. Assumes nothing.
use Rattle.std.specs.Prelude.{ℕ, suc, ◌+◌, ◌≤◌, ◌<◌, ◌≡◌, refl, List, [], ◌∷◌, ◌++◌, map, length, get_or, set, take, drop}
use Rattle.std.proofs.Common.{sym, ap, ◌∙◌, subst, ⊎_elim, arith, add-one, div-one, length-append, drop_of_length-le, drop-cons}
use Rattle.std.proofs.lemmas.List.Edits.{sets}
use Rattle.std.proofs.Math.Seq.{length-sets}
use Rattle.lists.specs.Tests.{below?}
use Rattle.records.specs.Room.{room_of, written, fitted, singly}
use Rattle.records.specs.RoomLaws.{stored-text}
use Rattle.records.specs.LeLaws.{sets_append}
use Rattle.sorting_spec.specs.Joined.{join_after, join}
use Rattle.sorting_texts.specs.Text.{joined_text}

-- the texts of the groups that begin at these places among the keys, joined by `;`
abbrev pub texts_of : List ℕ → List ℕ → List ℕ → List ℕ
texts_of names keys starts = join 59 (map (joined_text names keys) starts)

-- a text stored from k on, which ends at k'
pub record Put (old : List ℕ) (k : ℕ) (text new : List ℕ) (k' : ℕ) : Type 0 where
  pub stores : new ≡ sets old k text
  pub ends : k' ≡ k + length text

-- the same when the rest is still to come
pub record Coming (old : List ℕ) (k : ℕ) (text new : List ℕ) (k' : ℕ) (rest : List ℕ) : Type 0 where
  pub stores : sets new k' rest ≡ sets old k text
  pub ends : k' + length rest ≡ k + length text

module _ {old : List ℕ} {k : ℕ} {text : List ℕ} where
  pub coming_all : Coming old k text old k text
  coming_all = record { stores = refl; ends = refl }

  module _ {new : List ℕ} {k' : ℕ} where
    -- a number is written
    pub coming_one : {n : ℕ} {rest : List ℕ} → Coming old k text new k' (n ∷ rest) → Coming old k text (set new k' n) (k' + 1) rest
    coming_one {n} {rest} c = record {
      stores = ap (λ (j : ℕ). sets (set new k' n) j rest) (add-one k') ∙ c.stores;
      ends = omega (arith, c.ends);
    }

    -- a text is written
    pub coming_text : {t rest new'' : List ℕ} {k'' : ℕ} → Coming old k text new k' (t ++ rest) → Put new k' t new'' k'' → Coming old k text new'' k'' rest
    coming_text {t} {rest} c p = record {
      stores = rw (p.stores, p.ends) (sym (sets_append t rest new k') ∙ c.stores);
      ends = omega (arith, c.ends, p.ends, length-append t rest);
    }

    -- nothing is left
    pub coming_done : {rest : List ℕ} → rest ≡ [] → Coming old k text new k' rest → Put old k text new k'
    coming_done e c =
        let d : Coming old k text new k' [] = rw e at c in
        record { stores = d.stores; ends = sym (omega (arith, d.ends)) }

    pub coming_length : {rest : List ℕ} → Coming old k text new k' rest → length new ≡ length old
    coming_length {rest} c = sym (length-sets new k' rest) ∙ ap length c.stores ∙ length-sets old k text

-- one text, and then another
pub put_then : {old : List ℕ} {k : ℕ} {t new : List ℕ} {k' : ℕ} {u new'' : List ℕ} {k'' : ℕ} → Put old k t new k' → Put new k' u new'' k'' → Put old k (t ++ u) new'' k''
put_then {old} {k} {t} {u = u} p q = record {
  stores = q.stores ∙ rw (p.stores, p.ends) (sym (sets_append t u old k));
  ends = omega (arith, p.ends, q.ends, length-append t u);
}

-- a `;` and then a text
pub put_next : {old : List ℕ} {k : ℕ} {u new : List ℕ} {k' : ℕ} → Put (set old k 59) (k + 1) u new k' → Put old k (59 ∷ u) new k'
put_next {old} {k} {u = u} q = record {
  stores = q.stores ∙ ap (λ (j : ℕ). sets (set old k 59) j u) (add-one k);
  ends = omega (arith, q.ends);
}

-- ---- texts joined by `;`

module _ (f : ℕ → List ℕ) (starts : List ℕ) where
  -- the texts from start i on, each behind a `;`
  abbrev pub after_from : ℕ → List ℕ
  after_from i = join_after 59 (map f (drop i starts))

  pub after_on : (i : ℕ) → i < length starts → after_from i ≡ (59 ∷ f (get_or starts i 0)) ++ after_from (i + 1)
  after_on i h =
      ap (λ (l : List ℕ). join_after 59 (map f l)) (drop-cons starts i 0 h)
      ∙ ap (λ (j : ℕ). (59 ∷ f (get_or starts i 0)) ++ after_from j) (sym (add-one i))

  pub after-length : (i : ℕ) → i < length starts → suc (length (f (get_or starts i 0))) ≤ length (after_from i)
  after-length i h = rw (after_on i h) (omega (arith, length-append (59 ∷ f (get_or starts i 0)) (after_from (i + 1))))

  -- a turn: one text more
  pub after_turn : {old : List ℕ} {k : ℕ} {text new : List ℕ} {k' : ℕ} (i : ℕ) {new'' : List ℕ} {k'' : ℕ} → i < length starts → Coming old k text new k' (after_from i)
      → Put new k' (59 ∷ f (get_or starts i 0)) new'' k'' → Coming old k text new'' k'' (after_from (i + 1))
  after_turn {old} {k} {text} {new} {k'} i h c p = coming_text (subst (Coming old k text new k') (after_on i h) c) p

  pub after_last : (i : ℕ) → length starts ≤ i → after_from i ≡ []
  after_last i h = ap (λ (l : List ℕ). join_after 59 (map f l)) (drop_of_length-le starts {i = i} h)

  -- the first text, and then the others
  line-starts : 0 < length starts → join 59 (map f starts) ≡ f (get_or starts 0 0) ++ after_from 1
  line-starts h = ap (λ (l : List ℕ). join 59 (map f l)) (drop-cons starts 0 0 h)

  pub line-length : 0 < length starts → length (join 59 (map f starts)) ≡ length (f (get_or starts 0 0)) + length (after_from 1)
  line-length h = ap length (line-starts h) ∙ length-append (f (get_or starts 0 0)) (after_from 1)

  -- the first text written, and then the others
  pub line-put : {old new₁ new : List ℕ} {k₁ k : ℕ} → 0 < length starts → Put old 0 (f (get_or starts 0 0)) new₁ k₁ → Put new₁ k₁ (after_from 1) new k → Put old 0 (join 59 (map f starts)) new k
  line-put {old} {new = new} {k = k} h p q = subst (λ (t : List ℕ). Put old 0 t new k) (sym (line-starts h)) (put_then p q)

pub some-starts : (starts : List ℕ) → (length starts ≡ 0 → ⊥) → 0 < length starts
some-starts starts n = ⊎_elim (λ (h : 0 < length starts). h) (λ (h : length starts ≤ 0). absurd (n (omega arith))) (below? 0 (length starts))

-- ---- room

-- a text stored from the start on: the first bytes that fit
pub put-fits : (old text : List ℕ) → sets old 0 text ≡ fitted 1 (length old) old (singly text)
put-fits old text =
    let e : room_of 1 (length old + length text) old ≡ room_of 1 (length old) old = rw (div-one (length old)) (omega arith) in
    stored-text (length old + length text) text old (omega arith) ∙ ap (λ (n : ℕ). written old (take n (singly text))) e
