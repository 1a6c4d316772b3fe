-- Laws of the letters of a digest record. Assumes nothing.
use Rattle.std.specs.Prelude.{ℕ, suc, ◌+◌, ◌≤◌, ◌<◌, ◌≡◌, refl, Bool, true, false, cond, ◌&&◌, List, [], ◌∷◌, length, drop, get_or, set, ltb, leb, eqb, Ok, Err}
use Rattle.std.proofs.Common.{ap, arith, one-mul, add-one, drop_of_length-le, drop-cons, ltb-true, ltb-false, leb-true}
use Rattle.lists.specs.Tests.{both}
use Rattle.records.specs.declared.refusal.Refusal.TheVariants.{Size, Letter, Length, Field, Room}
use Rattle.records.specs.Le.{number_at}
use Rattle.records.specs.Outcome.{outcome}
use Rattle.records.specs.Room.{room_of, singly, counted}
use Rattle.records.specs.RoomLaws.{Sized, Standing, standing-none, standing-more, standing-done, standing_full, standing-length}
use Rattle.letters.specs.Letters.{first_bad}
use Rattle.enzyme_keep.specs.Digests.{good_record}
use Rattle.enzyme_spec.specs.Reversal.{spelling_tested}
use Rattle.records.specs.Answers.{Passed}

-- ---- the letters written one after the other

sized : (text : List ℕ) → Sized 1 (singly text)
sized [] = tt
sized (b ∷ bs) = (refl, sized bs)

module _ (old text : List ℕ) where
  -- the first i letters stand
  abbrev pub Spelling : ℕ → List ℕ → Type 0
  Spelling i out = Standing 1 65536 old (singly text) (singly (drop i text)) out i

  pub spelling_start : Spelling 0 old
  spelling_start = standing-none 1 65536 old (singly text) (sized text)

  pub spelling_length : (i : ℕ) (out : List ℕ) → Spelling i out → length out ≡ length old
  spelling_length i out s = standing-length 1 65536 old (singly text) (sized text) (singly (drop i text)) out i s

  ahead : (i : ℕ) → i < length text → singly (drop i text) ≡ (get_or text i 0 ∷ []) ∷ singly (drop (suc i) text)
  ahead i h = ap singly (drop-cons text i 0 h)

  pub spelling_turn : (i : ℕ) (out : List ℕ) → Spelling i out → i < length text → i < room_of 1 65536 old → Spelling (i + 1) (set out i (get_or text i 0))
  spelling_turn i out s h g =
      let x = standing-more 1 65536 old (singly text) (sized text) (get_or text i 0 ∷ []) (singly (drop (suc i) text)) out i (rw (ahead i h) at s) g in
      rw (add-one i) (rw (one-mul i, add-one i) at x)

  pub spelling_full : (i : ℕ) (out : List ℕ) → Spelling i out → i < length text → room_of 1 65536 old ≤ i → outcome (Err Room) (out ∷ []) ≡ counted 1 65536 old (singly text)
  spelling_full i out s h g =
      let x = standing_full 1 65536 old (singly text) (sized text) (get_or text i 0 ∷ []) (singly (drop (suc i) text)) out i (rw (ahead i h) at s) g in
      rw x.1 (rw (← x.0))

  pub spelling_done : (i : ℕ) (out : List ℕ) → Spelling i out → length text ≤ i → outcome (Ok i) (out ∷ []) ≡ counted 1 65536 old (singly text)
  spelling_done i out s h =
      let x = standing-done 1 65536 old (singly text) (sized text) out i (rw (drop_of_length-le text h) at s) in
      rw (x.1, ← x.2) (rw (← x.0))

-- ---- what is known where the tests passed

pub spelling_passed : (s r : List ℕ) → spelling_tested s r ≡ Passed → (length s ≤ 65536) × (number_at 4 r 0 ≤ number_at 4 r 4) × (number_at 4 r 4 ≤ length s)
spelling_passed s r e = go (ltb 65536 (length s)) (eqb (length r) 20) (ltb (first_bad s) (length s)) (good_record r && leb (number_at 4 r 4) (length s)) refl refl e
  where
    go : (a b c d : Bool) → ltb 65536 (length s) ≡ a → (good_record r && leb (number_at 4 r 4) (length s)) ≡ d
        → cond a (Err Size) (cond b (cond c (Err (Letter (first_bad s))) (cond d Passed (Err (Field 0)))) (Err Length)) ≡ Passed
        → (length s ≤ 65536) × (number_at 4 r 0 ≤ number_at 4 r 4) × (number_at 4 r 4 ≤ length s)
    go true b c d f g e = let z : ◌≡◌ {A = ℕ} 0 1 = cc in absurd (omega arith)
    go false false c d f g e = let z : ◌≡◌ {A = ℕ} 0 1 = cc in absurd (omega arith)
    go false true true d f g e = let z : ◌≡◌ {A = ℕ} 0 1 = cc in absurd (omega arith)
    go false true false false f g e = let z : ◌≡◌ {A = ℕ} 0 1 = cc in absurd (omega arith)
    go false true false true f g e =
        let x = both (good_record r) (leb (number_at 4 r 4) (length s)) g in
        let y = both (ltb (number_at 4 r 0) (number_at 4 r 4) && leb (number_at 4 r 4) 65536 && leb (get_or r 8 0) 16 && leb (get_or r 9 0) 1 && leb (get_or r 10 0) 3) (leb (get_or r 11 0) 1) x.0 in
        let z = both (ltb (number_at 4 r 0) (number_at 4 r 4) && leb (number_at 4 r 4) 65536 && leb (get_or r 8 0) 16 && leb (get_or r 9 0) 1) (leb (get_or r 10 0) 3) y.0 in
        let w = both (ltb (number_at 4 r 0) (number_at 4 r 4) && leb (number_at 4 r 4) 65536 && leb (get_or r 8 0) 16) (leb (get_or r 9 0) 1) z.0 in
        let v = both (ltb (number_at 4 r 0) (number_at 4 r 4) && leb (number_at 4 r 4) 65536) (leb (get_or r 8 0) 16) w.0 in
        let u = both (ltb (number_at 4 r 0) (number_at 4 r 4)) (leb (number_at 4 r 4) 65536) v.0 in
        let l : number_at 4 r 0 < number_at 4 r 4 = ltb-true _ _ u.0 in
        (ltb-false _ _ f, omega arith, leb-true _ _ x.1)
