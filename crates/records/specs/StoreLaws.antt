-- Stores one after the other: of records, each at its place where there is room for it, in the end the first that fit stand in
-- order. Assumes nothing.
use Rattle.std.specs.Prelude.{ℕ, suc, ◌+◌, ◌*◌, ◌≤◌, ◌<◌, ◌≡◌, refl, Bool, true, false, cond, List, [], ◌∷◌, ◌++◌, length, get_or, set, take, drop, ltb}
use Rattle.std.proofs.Common.{sym, ap, ◌∙◌, ⊎_elim, arith, add-one, append_assoc, drop_of_length-le, drop-cons, length-take-le, take-append-drop, lt-ltb, le-ltb}
use Rattle.std.proofs.lemmas.List.Edits.{sets, sets-eq, paste_all}
use Rattle.std.proofs.lemmas.Slice.{put_mid-paste}
use borrow.Rule.Slice.PartMut.{put_mid}
use Rattle.std.proofs.Math.Seq.{length-sets}
use Rattle.lists.specs.Tests.{below?}
use Rattle.records.specs.LeLaws.{sets_out, sets_append}
use Rattle.records.specs.Room.{room_of, fitted}
use Rattle.records.specs.RoomLaws.{Sized, Standing, standing-none, standing-more, standing-done, standing_full, standing-length}

-- ---- numbers stored one after the other: what is still to be stored from place k on, vs from i on

pub store_on : (out vs : List ℕ) (k i : ℕ) → i < length vs → sets (set out k (get_or vs i 0)) (k + 1) (drop (i + 1) vs) ≡ sets out k (drop i vs)
store_on out vs k i h = rw (add-one i, add-one k) (ap (sets out k) (sym (drop-cons vs i 0 h)))

pub store_end : (out vs : List ℕ) (k i : ℕ) → length vs ≤ i → out ≡ sets out k (drop i vs)
store_end out vs k i h = ap (sets out k) (sym (drop_of_length-le vs {i = i} h))

-- ---- items stored at once: a part that was written is they

pub part_stored : {A : Type 0} (s ys vs : List A) (at k : ℕ) → at + k ≤ length s → ys ≡ vs → k ≡ length vs → put_mid at k s ys ≡ sets s at vs
part_stored s ys vs at k h e l =
    let p : put_mid at k s ys ≡ take at s ++ (vs ++ drop (at + k) s) = put_mid-paste at k s ys vs k e refl l ∙ paste_all s at vs k l in
    let q : sets s at vs ≡ take at s ++ (vs ++ drop (at + k) s) = rw l (sets-eq vs s at (omega (arith, l)) ∙ append_assoc (take at s) vs (drop (at + length vs) s)) in
    p ∙ sym q

-- of items of which fewer have room the first alone
pub sets_cut : {A : Type 0} (s vs : List A) (at n : ℕ) → length s ≤ at + n → n ≤ length vs → sets s at (take n vs) ≡ sets s at vs
sets_cut s vs at n h l =
    let k : length (take n vs) ≡ n = length-take-le n vs l in
    let e : sets s at (take n vs ++ drop n vs) ≡ sets (sets s at (take n vs)) (at + length (take n vs)) (drop n vs) = sets_append (take n vs) (drop n vs) s at in
    let o : sets (sets s at (take n vs)) (at + length (take n vs)) (drop n vs) ≡ sets s at (take n vs) = sets_out (drop n vs) (sets s at (take n vs)) (at + length (take n vs)) (omega (arith, k, length-sets s at (take n vs))) in
    sym o ∙ sym e ∙ ap (sets s at) (take-append-drop n vs)

-- ---- records, each at its place where there is room for it

module _ (size limit : ℕ) where
  -- record k, where there is room for it
  abbrev pub stored : List ℕ → ℕ → List ℕ → List ℕ
  stored out k r = cond (ltb k (room_of size limit out)) (sets out (size * k) r) out

  pub stored_full : (out : List ℕ) (k : ℕ) (r : List ℕ) → room_of size limit out ≤ k → out ≡ stored out k r
  stored_full out k r h = rw (le-ltb k (room_of size limit out) h)

  pub stored-free : (out : List ℕ) (k : ℕ) (r : List ℕ) → k < room_of size limit out → sets out (size * k) r ≡ stored out k r
  stored-free out k r h = rw (lt-ltb k (room_of size limit out) h)

  pub length-stored : (out : List ℕ) (k : ℕ) (r : List ℕ) → length (stored out k r) ≡ length out
  length-stored out k r = go (ltb k (room_of size limit out))
    where
      go : (b : Bool) → length (cond b (sets out (size * k) r) out) ≡ length out
      go true = length-sets out (size * k) r
      go false = refl

  -- the records from k on
  abbrev pub stored_from : List ℕ → ℕ → List (List ℕ) → List ℕ
  stored_from out k [] = out
  stored_from out k (r ∷ rs) = stored_from (stored out k r) (suc k) rs

  full : (out : List ℕ) (k : ℕ) (rs : List (List ℕ)) → room_of size limit out ≤ k → stored_from out k rs ≡ out
  full out k [] h = refl
  full out k (r ∷ rs) h = rw (le-ltb k (room_of size limit out) h) (full out (suc k) rs (omega arith))

  module _ (old : List ℕ) (all : List (List ℕ)) (sized : Sized size all) where
    standing : (out : List ℕ) (k : ℕ) (rest : List (List ℕ)) → Standing size limit old all rest out k → stored_from out k rest ≡ fitted size limit old all
    standing out k [] s = (standing-done size limit old all sized out k s).0
    standing out k (r ∷ rest) s =
        ⊎_elim (λ (h : k < room_of size limit old). more h (λ (t : Standing size limit old all rest (sets out (size * k) r) (suc k)). standing (sets out (size * k) r) (suc k) rest t)) none (below? k (room_of size limit old))
      where
        same : room_of size limit out ≡ room_of size limit old
        same = let n : length out ≡ length old = standing-length size limit old all sized (r ∷ rest) out k s in rw n

        more : k < room_of size limit old → (Standing size limit old all rest (sets out (size * k) r) (suc k) → stored_from (sets out (size * k) r) (suc k) rest ≡ fitted size limit old all)
            → stored_from (stored out k r) (suc k) rest ≡ fitted size limit old all
        more h ih = rw (same, lt-ltb k (room_of size limit old) h) (ih (rw (add-one k) at (standing-more size limit old all sized r rest out k s h)))

        none : room_of size limit old ≤ k → stored_from (stored out k r) (suc k) rest ≡ fitted size limit old all
        none h =
            rw (same, le-ltb k (room_of size limit old) h)
            (full out (suc k) rest (omega (arith, same)) ∙ (standing_full size limit old all sized r rest out k s h).0)

    -- THE LAW
    pub stored-all : stored_from old 0 all ≡ fitted size limit old all
    stored-all = standing old 0 all (standing-none size limit old all sized)
