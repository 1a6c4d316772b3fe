-- Laws by which a run of written records becomes "the first that fit, in order, the rest untouched". Assumes nothing.
use Prim.Native.Nat.{ℕ, zero, suc, ◌+◌, ◌*◌, ◌/◌, ◌≤◌, ◌<◌, min}
use Rattle.std.specs.Prelude.{◌≡◌, refl, true, false, take, drop, set, leb}
use Rattle.std.proofs.Math.Path.{sym, ap, subst}
use Rattle.std.proofs.Common.{◌∙◌, arith, add-one, div-one, le-div_iff_mul-le, mul-suc, mul-zero, div-mul-le_self, mul_comm, mul-le-mul_left, le_trans, drop_of_length-le, take_at, drop_at, take_all, drop-drop, length-take-le, le-leb}
use mathlib.Core.List.{List, [], ◌∷◌, ◌++◌, flatten, append_assoc, append-nil}
use Rattle.std.proofs.Math.Nat.{min-le_left, div-eq_of_lt}
use Rattle.std.proofs.Math.Logic.{⊎_elim}
use Rattle.std.proofs.Math.ListN.{length, length-append, length-drop}
use Rattle.std.proofs.lemmas.List.{length-map}
use Rattle.std.proofs.lemmas.List.Edits.{sets, sets-eq}
use Rattle.std.proofs.Math.Seq.{take-nil, drop-length}
use Rattle.std.proofs.lemmas.Bool.{lt-leb}
use Rattle.lists.specs.KeepLaws.{all_append}
use Rattle.lists.specs.Lists.{All}
use Rattle.lists.specs.Tests.{below?}
use Rattle.records.specs.LeLaws.{sets_out}
use Rattle.records.specs.Room.{room_of, written, fits, fitted, singly}

-- each record has the size
abbrev pub Sized : ℕ → List (List ℕ) → Type 0
Sized size rs = All (λ (r : List ℕ). length r ≡ size) rs

pub flatten_append : (rs qs : List (List ℕ)) → flatten (rs ++ qs) ≡ flatten rs ++ flatten qs
unfolding flatten
flatten_append [] qs = refl
flatten_append (r ∷ rs) qs = rw (flatten_append rs qs) (sym (append_assoc r (flatten rs) (flatten qs)))

pub flatten_one : (r : List ℕ) → flatten (r ∷ []) ≡ r
unfolding flatten
flatten_one r = append-nil r

pub length_flatten : (size : ℕ) (rs : List (List ℕ)) → Sized size rs → length (flatten rs) ≡ size * length rs
unfolding flatten
length_flatten size [] h = sym (mul-zero size)
length_flatten size (r ∷ rs) h = length-append r (flatten rs) ∙ rw mul-suc (omega (arith, h.0, length_flatten size rs h.1))

pub written_none : (old : List ℕ) → written old [] ≡ old
unfolding written flatten
written_none old = refl

-- one record more, stored behind the others
pub written-more : (size : ℕ) (old : List ℕ) (rs : List (List ℕ)) (r : List ℕ) → Sized size rs → length r ≡ size
    → size * length rs + size ≤ length old → sets (written old rs) (size * length rs) r ≡ written old (rs ++ (r ∷ []))
unfolding written
written-more size old rs r hs hr room =
    let f : List ℕ = flatten rs in
    let n : length f ≡ size * length rs = length_flatten size rs hs in
    let l : length (f ++ drop (length f) old) ≡ length old = length-append f (drop (length f) old) ∙ omega (arith, length-drop (length f) old) in
    let a : take (size * length rs) (f ++ drop (length f) old) ≡ f = take_at f (drop (length f) old) (size * length rs) n in
    let b : drop (size * length rs) (f ++ drop (length f) old) ≡ drop (length f) old = drop_at f (drop (length f) old) (size * length rs) n in
    let c : drop (size * length rs + length r) (f ++ drop (length f) old) ≡ drop (length f + length r) old =
    sym (drop-drop (length r) (size * length rs) (f ++ drop (length f) old)) ∙ ap (drop (length r)) b ∙ drop-drop (length r) (length f) old in
    let e : flatten (rs ++ (r ∷ [])) ≡ f ++ r = flatten_append rs (r ∷ []) ∙ ap (λ (x : List ℕ). f ++ x) (flatten_one r) in
    let m : length (flatten (rs ++ (r ∷ []))) ≡ length f + length r = ap length e ∙ length-append f r in
    sets-eq r (f ++ drop (length f) old) (size * length rs) (omega arith)
    ∙ ap (λ (x : List ℕ). x ++ r ++ drop (size * length rs + length r) (f ++ drop (length f) old)) a
    ∙ ap (λ (x : List ℕ). f ++ r ++ x) c
    ∙ ap (λ (x : List ℕ). x ++ drop (length f + length r) old) (sym e)
    ∙ ap (λ (x : ℕ). flatten (rs ++ (r ∷ [])) ++ drop x old) (sym m)

-- ---- a run of records: of all of them those of rest are still to come, and count stand in out

pub record Standing (size limit : ℕ) (old : List ℕ) (all rest : List (List ℕ)) (out : List ℕ) (count : ℕ) : Type 0 where
  pub before : List (List ℕ)
  pub split : before ++ rest ≡ all
  pub bytes : out ≡ written old before
  pub number : count ≡ length before
  pub room : count ≤ room_of size limit old

room_bytes : (size limit n : ℕ) (old : List ℕ) → n ≤ room_of size limit old → size * n ≤ length old
room_bytes size limit n old h =
    let a : n ≤ length old / size = le_trans h (min-le_left (length old / size) limit) in
    let b : size * n ≤ size * (length old / size) = mul-le-mul_left size a in
    let c : length old / size * size ≤ length old = div-mul-le_self (length old) size in
    let d : length old / size * size ≡ size * (length old / size) = mul_comm (length old / size) size in
    omega arith

module _ (size limit : ℕ) (old : List ℕ) (all : List (List ℕ)) (sized : Sized size all) where
  pub standing-none : Standing size limit old all all old 0
  standing-none = record { before = []; split = refl; bytes = sym (written_none old); number = refl; room = omega arith }

  module _ (rest : List (List ℕ)) (out : List ℕ) (count : ℕ) (s : Standing size limit old all rest out count) where
    sized_before : Sized size s.before
    sized_before = (all_append (λ (r : List ℕ). length r ≡ size) s.before rest (subst (Sized size) (sym s.split) sized)).0

    sized_rest : Sized size rest
    sized_rest = (all_append (λ (r : List ℕ). length r ≡ size) s.before rest (subst (Sized size) (sym s.split) sized)).1

    pub standing-length : length out ≡ length old
    unfolding written
    standing-length =
        let n : length (flatten s.before) ≡ size * length s.before = length_flatten size s.before sized_before in
        let e : count ≡ length s.before = s.number in
        let r : size * count ≤ length old = room_bytes size limit count old s.room in
        let r' : size * length s.before ≤ length old = subst (λ (x : ℕ). size * x ≤ length old) e r in
        ap length s.bytes ∙ length-append (flatten s.before) (drop (length (flatten s.before)) old) ∙ omega (arith, length-drop (length (flatten s.before)) old)

  -- a record is stored
  pub standing-more : (r : List ℕ) (rest : List (List ℕ)) (out : List ℕ) (count : ℕ) → Standing size limit old all (r ∷ rest) out count
      → count < room_of size limit old → Standing size limit old all rest (sets out (size * count) r) (count + 1)
  standing-more r rest out count s h =
      let b : List (List ℕ) = s.before in
      let e : count ≡ length b = s.number in
      let k : size * (count + 1) ≤ length old = room_bytes size limit (count + 1) old (omega arith) in
      let m : size * length b + size ≤ length old = let q : size * (count + 1) ≡ size * length b + size = rw (e, add-one (length b)) (mul-suc size (length b)) in omega arith in
      record {
        before = b ++ (r ∷ []);
        split = append_assoc b (r ∷ []) rest ∙ s.split;
        bytes = rw (s.bytes, e) (written-more size old b r (sized_before (r ∷ rest) out count s) (sized_rest (r ∷ rest) out count s).0 m);
        number = omega (arith, length-append b (r ∷ []));
        room = omega arith;
      }

  -- all of them stand
  pub standing-done : (out : List ℕ) (count : ℕ) → Standing size limit old all [] out count
      → (out ≡ fitted size limit old all) × (fits size limit old all ≡ true) × (count ≡ length all)
  standing-done out count s =
      let e : s.before ≡ all = sym (append-nil s.before) ∙ s.split in
      let n : length all ≡ count = sym (s.number ∙ ap length e) in
      let h : length all ≤ room_of size limit old = omega (arith, s.room) in
      (s.bytes ∙ rw (take_all (room_of size limit old) all h, e), le-leb (length all) (room_of size limit old) h, sym n)

  -- there is no room for the next one
  pub standing_full : (r : List ℕ) (rest : List (List ℕ)) (out : List ℕ) (count : ℕ) → Standing size limit old all (r ∷ rest) out count
      → room_of size limit old ≤ count → (out ≡ fitted size limit old all) × (fits size limit old all ≡ false)
  standing_full r rest out count s h =
      let b : List (List ℕ) = s.before in
      let n : length b ≡ room_of size limit old = omega (arith, s.number, s.room) in
      let l : length all ≡ length b + suc (length rest) = sym (ap length s.split) ∙ length-append b (r ∷ rest) in
      (s.bytes ∙ rw (← s.split, take_at b (r ∷ rest) (room_of size limit old) n), lt-leb (length all) (room_of size limit old) (omega arith))

-- ---- texts: a record is a byte

pub flatten_singly : (t : List ℕ) (n : ℕ) → flatten (take n (singly t)) ≡ take n t
unfolding flatten
flatten_singly t zero = refl
flatten_singly [] (suc n) = refl
flatten_singly (b ∷ t) (suc n) = ap (λ (l : List ℕ). b ∷ l) (flatten_singly t n)

sets_behind : (x : ℕ) (xs : List ℕ) (i : ℕ) (vs : List ℕ) → sets (x ∷ xs) (suc i) vs ≡ x ∷ sets xs i vs
sets_behind x xs i [] = refl
sets_behind x xs i (v ∷ vs) = sets_behind x (set xs i v) (suc i) vs

-- stores from the front on: what lies past the end is lost
sets_front : (vs old : List ℕ) → sets old 0 vs ≡ take (length old) vs ++ drop (length vs) old
sets_front [] old = rw (take-nil {A = ℕ} (length old))
sets_front (v ∷ vs) [] = sets_out vs [] 1 (omega arith)
sets_front (v ∷ vs) (x ∷ xs) = sets_behind v xs 0 vs ∙ ap (λ (l : List ℕ). v ∷ l) (sets_front vs xs)

module _ (limit : ℕ) (t old : List ℕ) (h : length t ≤ limit) where
  room_text : room_of 1 limit old ≡ min (length old) limit
  room_text = ap (λ (n : ℕ). min n limit) (div-one (length old))

  -- a text stored byte by byte: the first bytes that fit
  pub stored-text : sets old 0 t ≡ fitted 1 limit old (singly t)
  unfolding written
  stored-text = sets_front t old ∙ ⊎_elim short long (below? (length old) (length t)) ∙ sym front
    where
      n : ℕ
      n = room_of 1 limit old

      front : written old (take n (singly t)) ≡ take n t ++ drop (length (take n t)) old
      front = rw (flatten_singly t n)

      short : length old < length t → take (length old) t ++ drop (length t) old ≡ take n t ++ drop (length (take n t)) old
      short g =
          let e : n ≡ length old = room_text ∙ omega arith in
          let l : length (take (length old) t) ≡ length old = length-take-le (length old) t (omega arith) in
          let k : length old ≤ length t = omega arith in
          rw (e, l, drop_of_length-le old k, drop-length old)

      long : length t ≤ length old → take (length old) t ++ drop (length t) old ≡ take n t ++ drop (length (take n t)) old
      long g =
          let e : length t ≤ n = omega (arith, room_text) in
          rw (take_all n t e, take_all (length old) t g)

  pub fits-text : fits 1 limit old (singly t) ≡ leb (length t) (length old)
  fits-text =
      let e : length (singly t) ≡ length t = length-map t (λ (b : ℕ). b ∷ []) in
      let m : ℕ = min (length old) limit in
      rw (e, room_text)
      (⊎_elim (λ (g : length old < length t). lt-leb (length t) m (omega arith) ∙ sym (lt-leb (length t) (length old) g))
      (λ (g : length t ≤ length old). le-leb (length t) m (omega arith) ∙ sym (le-leb (length t) (length old) g)) (below? (length old) (length t)))

-- ---- a list of one record

module _ (size : ℕ) (r old : List ℕ) (is : length r ≡ size) (some : 0 < size) where
  room_one : size ≤ length old → 1 ≤ room_of size 1 old
  room_one h = let k : 1 ≤ length old / size = (le-div_iff_mul-le some).1 (omega arith) in omega arith

  pub stored_one : size ≤ length old → sets old 0 r ≡ fitted size 1 old (r ∷ [])
  stored_one h =
      let s = standing-more size 1 old (r ∷ []) (is, tt) r [] old 0 (standing-none size 1 old (r ∷ []) (is, tt)) (omega (arith, room_one h)) in
      let e : size * 0 ≡ 0 = mul-zero size in
      ap (λ (i : ℕ). sets old i r) (sym e) ∙ (standing-done size 1 old (r ∷ []) (is, tt) (sets old (size * 0) r) 1 s).0

  pub fits_one : size ≤ length old → fits size 1 old (r ∷ []) ≡ true
  fits_one h = le-leb 1 (room_of size 1 old) (room_one h)

  no_room : length old < size → room_of size 1 old ≡ 0
  no_room h = let k : length old / size ≡ 0 = div-eq_of_lt h in rw k (omega arith)

  pub kept-one : length old < size → old ≡ fitted size 1 old (r ∷ [])
  kept-one h = rw (no_room h) (sym (written_none old))

  pub full_one : length old < size → fits size 1 old (r ∷ []) ≡ false
  full_one h = rw (no_room h) refl
