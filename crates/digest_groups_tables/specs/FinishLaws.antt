-- From the runs to what the call leaves. Assumes nothing.
use Rattle.std.specs.Prelude.{ℕ, zero, suc, ◌+◌, ◌*◌, ◌/◌, ◌≤◌, min, ◌≡◌, refl, Bool, true, false, cond, ◌&&◌, List, [], ◌∷◌, ◌++◌, map, length, take, replicate, leb, Ok, Err}
use Rattle.std.proofs.Common.{sym, ap, ◌∙◌, subst, arith, length-append, length-take-le}
use Rattle.std.proofs.lemmas.List.{length-map}
use Rattle.std.proofs.lemmas.List.Edits.{sets}
use Rattle.std.proofs.Math.Seq.{slice}
use Rattle.lists.specs.KeepLaws.{all_both, all_keep}
use Rattle.lists.specs.Lists.{up_from, keep, same}
use Rattle.records.specs.declared.refusal.Refusal.TheVariants.{Room}
use Rattle.records.specs.Le.{le}
use Rattle.records.specs.LeLaws.{length-le}
use Rattle.records.specs.Outcome.{outcome}
use Rattle.records.specs.Room.{fits, fitted, singly}
use Rattle.records.specs.RoomLaws.{Sized, stored-text}
use Rattle.records.specs.StoreLaws.{stored_from, stored-all}
use Rattle.sorting_spec.specs.Distinct.{distinct}
use Rattle.sorting_spec.specs.Runs.{joined, runs_of}
use Rattle.digest_groups_spec.specs.DigestGroups.{digest_at, digests_in, key_of, gathered, group_of, groups_from, protein_list, digests_grouped}
use Rattle.digest_groups_runs.specs.Turns.{digest_order, DigestsSorted, RunsGathered}
use Rattle.digest_groups_runs.specs.TurnLaws.{length-digest}
use Rattle.records.specs.Answers.{Counted}

-- ---- every record of a group has 28 bytes

whole-digests : (bytes : List ℕ) (a n : ℕ) → 20 * (a + n) ≤ length bytes → Sized 20 (map (digest_at bytes) (up_from a n))
whole-digests bytes a zero h = tt
whole-digests bytes a (suc n) h = (length-digest bytes a (omega arith), whole-digests bytes (suc a) n (omega arith))

sized_group : (at : ℕ) (ms : List (List ℕ)) → Sized 20 ms → Sized 28 (group_of at ms)
sized_group at [] h = tt
sized_group at (d ∷ ds) h =
    (length-append (d ++ le 4 at) (le 4 (length (d ∷ ds))) ∙ omega (arith, length-append d (le 4 at), length-le 4 at, length-le 4 (length (d ∷ ds)), h.0), tt)

sized_groups : (q : List ℕ → List ℕ → Bool) (ds : List (List ℕ)) → Sized 20 ds → (at : ℕ) (ks : List (List ℕ)) → Sized 28 (groups_from at (map (λ (k : List ℕ). keep (λ (d : List ℕ). q d k) ds) ks))
sized_groups q ds h at [] = tt
sized_groups q ds h at (k ∷ ks) =
    all_both (λ (r : List ℕ). length r ≡ 28) (group_of at (keep (λ (d : List ℕ). q d k) ds)) (groups_from (at + length (keep (λ (d : List ℕ). q d k) ds)) (map (λ (k : List ℕ). keep (λ (d : List ℕ). q d k) ds) ks))
    (sized_group at (keep (λ (d : List ℕ). q d k) ds) (all_keep (λ (r : List ℕ). length r ≡ 20) (λ (d : List ℕ). q d k) ds h))
    (sized_groups q ds h (at + length (keep (λ (d : List ℕ). q d k) ds)) ks)

pub sized_gathered : (bounds letters bytes : List ℕ) (n : ℕ) → length bytes ≡ 20 * n → Sized 28 (groups_from 0 (gathered bounds letters (digests_in bytes)))
sized_gathered bounds letters bytes n h =
    let e : n ≡ length bytes / 20 = omega arith in
    sized_groups (λ (d k : List ℕ). same (key_of bounds letters d) k) (digests_in bytes)
    (subst (λ (k : ℕ). Sized 20 (map (digest_at bytes) (up_from 0 k))) e (whole-digests bytes 0 n (omega arith))) 0 (distinct (map (key_of bounds letters) (digests_in bytes)))

-- ---- there are as many records as runs

abbrev Some : {A : Type 0} → List (List A) → Type 0
Some [] = Unit {0}
Some ([] ∷ rs) = ⊥
Some ((x ∷ xs) ∷ rs) = Some rs

some-joined : {A : Type 0} (le : A → A → Bool) (x : A) (rs : List (List A)) → Some rs → Some (joined le x rs)
some-joined le x [] h = tt
some-joined le x ([] ∷ rs) h = absurd h
some-joined le x ((y ∷ ys) ∷ rs) h = go (le y x)
  where
    go : (b : Bool) → Some (cond b ((x ∷ y ∷ ys) ∷ rs) ((x ∷ []) ∷ (y ∷ ys) ∷ rs))
    go true = h
    go false = h

some_runs : {A : Type 0} (le : A → A → Bool) (xs : List A) → Some (runs_of le xs)
some_runs le [] = tt
some_runs le (x ∷ xs) = some-joined le x (runs_of le xs) (some_runs le xs)

some-map : (f : ℕ → List ℕ) (rs : List (List ℕ)) → Some rs → Some (map (map f) rs)
some-map f [] h = tt
some-map f ([] ∷ rs) h = absurd h
some-map f ((x ∷ xs) ∷ rs) h = some-map f rs h

length-groups : (at : ℕ) (mss : List (List (List ℕ))) → Some mss → length (groups_from at mss) ≡ length mss
length-groups at [] h = refl
length-groups at ([] ∷ mss) h = absurd h
length-groups at ((d ∷ ds) ∷ mss) h = ap suc (length-groups (at + length (d ∷ ds)) mss h)

-- ---- what the call leaves

module _ (names bounds letters bytes : List ℕ) (n : ℕ) (work w w' groups groups' proteins : List ℕ) (g : ℕ) (r : Counted) (s : DigestsSorted bounds letters bytes n w)
    (d : RunsGathered names letters bytes n w groups g w' groups') (same : length w ≡ length work) where
  abbrev mss : List (List (List ℕ))
  mss = gathered bounds letters (digests_in bytes)

  records : groups' ≡ fitted 28 1048576 groups (groups_from 0 mss)
  records =
      d.stores ∙ ap (λ (m : List (List (List ℕ))). stored_from 28 1048576 groups 0 (groups_from 0 m)) s.runs
      ∙ stored-all 28 1048576 groups (groups_from 0 mss) (sized_gathered bounds letters bytes n s.ready.whole)

  list : take n w' ≡ protein_list names mss
  list = d.lists ∙ ap (protein_list names) s.runs

  wide : length (protein_list names mss) ≡ n
  wide = ap length (sym list) ∙ length-take-le n w' (omega (arith, s.ready.fits, d.same_length))

  count_grouped : g ≡ length (groups_from 0 mss)
  count_grouped =
      d.number ∙ ap (λ (m : List (List (List ℕ))). length m) s.runs
      ∙ sym (length-groups 0 mss (subst (λ (m : List (List (List ℕ))). Some m) s.runs (some-map (digest_at bytes) (runs_of (digest_order letters n w) (slice 0 n w)) (some_runs (digest_order letters n w) (slice 0 n w)))))

  numbers : sets proteins 0 (take n w') ≡ fitted 1 1048576 proteins (singly (protein_list names mss))
  numbers = ap (sets proteins 0) list ∙ stored-text 1048576 (protein_list names mss) proteins (omega (arith, wide, s.ready.few))

  pub left_grouped : r ≡ cond (leb g (min (length groups / 28) 1048576) && leb n (min (length proteins / 1) 1048576)) (Ok g) (Err Room)
      → outcome r (replicate (length w') 0 ∷ groups' ∷ sets proteins 0 (take n w') ∷ []) ≡ digests_grouped names mss work groups proteins
  left_grouped e =
      let z : length w' ≡ length work = d.same_length ∙ same in
      let m : length (singly (protein_list names mss)) ≡ n = length-map (protein_list names mss) (λ (b : ℕ). b ∷ []) ∙ wide in
      let a : r ≡ cond (fits 28 1048576 groups (groups_from 0 mss) && fits 1 1048576 proteins (singly (protein_list names mss))) (Ok (length (groups_from 0 mss))) (Err Room) = rw m (rw count_grouped at e) in
      rw (records, numbers, z, a)
