-- Laws of the turns. Assumes nothing.
use Rattle.std.specs.Prelude.{ℕ, suc, ◌+◌, ◌-◌, ◌*◌, ◌≤◌, ◌<◌, ◌≡◌, refl, cond, ◌&&◌, List, [], ◌∷◌, ◌++◌, map, leb, length, get_or, take, drop, set}
use Rattle.std.proofs.Common.{sym, ap, ap₂, ◌∙◌, subst, inl, inr, ⊎_elim, append_assoc, append-nil, arith, add-one, le-leb, length-append, length-drop, length-set, length-take-le, get_or-set_same, get_or-set_other}
use Rattle.std.proofs.lemmas.Simd.{map-map}
use Rattle.std.proofs.lemmas.List.{length-map}
use Rattle.std.proofs.lemmas.List.Edits.{sets}
use Rattle.std.proofs.Math.Seq.{slice, slice-cons, slice_empty, length-slice}
use Rattle.lists.specs.Tests.{same?}
use Rattle.lists.specs.FrameLaws.{framed_none, framed_then, framed_within, framed_set}
use Rattle.records.specs.Le.{le}
use Rattle.records.specs.LeLaws.{length-le, sets_append}
use Rattle.records.specs.StoreLaws.{stored_from, length-stored}
use Rattle.sorting_texts.specs.declared.text.By.TheVariants.{Name, Spelled}
use Rattle.sorting_spec.specs.Sort.{sorted}
use Rattle.sorting_texts.specs.Text.{le_by}
use Rattle.sorting_spec.specs.Runs.{run_length, runs_of}
use Rattle.sorting_spec.specs.RunLaws.{runs_slice, run-some, run_most}
use Rattle.sorting_slices.specs.Sorting.{arranged}
use Rattle.sorting_slices.specs.SortingLaws.{length-arranged, arranged-rest, arranged-between, arranged-sorted}
use Rattle.sorting_spec.specs.PartLaws.{slice-same, slice_mapped, slice-join, drop-same}
use Rattle.enzyme_keep.specs.Digests.{protein_in}
use Rattle.digest_groups_spec.specs.DigestGroups.{digest_at, by_name, proteins_of, group_of, groups_from, protein_list}
use Rattle.digest_groups_runs.specs.Turns.{Replaced, RunListed, DigestsReady, digest_order, runs_from, RunGrouped, RunsAhead, RunsGathered}

-- ---- numbers replaced one by one

pub replaced_none : {f : ℕ → ℕ} {old : List ℕ} {lo : ℕ} → Replaced f old old lo lo
replaced_none {f} {old} {lo} = record { same_length = refl; inside = λ i h k. absurd (omega arith); rest = framed_none lo lo old }

pub replaced_more : {f : ℕ → ℕ} {old new : List ℕ} {lo i : ℕ} → lo ≤ i → i < length new → Replaced f old new lo i → Replaced f old (set new i (f (get_or new i 0))) lo (i + 1)
replaced_more {f} {old} {new} {lo} {i} l h r = record {
  same_length = length-set new i (f (get_or new i 0)) ∙ r.same_length;
  inside = λ j k m. ⊎_elim (λ (e : j ≡ i). rw e (get_or-set_same new i (f (get_or new i 0)) 0 h ∙ ap f (r.rest i (inr (omega arith)))))
      (λ (e : j ≡ i → ⊥). get_or-set_other new i j (f (get_or new i 0)) 0 e ∙ r.inside j k (omega (arith, e))) (same? j i);
  rest =
      framed_then lo (i + 1) old new (set new i (f (get_or new i 0))) (framed_within lo lo i (i + 1) old new (omega arith) (omega arith) r.rest)
      (framed_set lo (i + 1) i (f (get_or new i 0)) new l (omega arith));
}

-- ---- and sorted by name

pub listed_of : (names bytes old mid : List ℕ) (lo hi n : ℕ) → lo ≤ hi → hi ≤ n → 2 * n ≤ length old → Replaced (λ (x : ℕ). protein_in (digest_at bytes x)) old mid lo hi
    → RunListed names bytes old (arranged Name names lo hi n (2 * n) mid) lo hi n
listed_of names bytes old mid lo hi n a b c r =
    let l : 2 * n ≤ length mid = omega (arith, r.same_length) in
    let s : n + (hi - lo) ≤ 2 * n = omega arith in
    record {
      same_length = length-arranged Name names lo hi n (2 * n) mid a b s l ∙ r.same_length;
      proteins =
          arranged-sorted Name names lo hi n (2 * n) mid a b s l
          ∙ ap (sorted (by_name names)) (slice_mapped (λ (x : ℕ). protein_in (digest_at bytes x)) lo hi mid old (omega arith) (omega arith) r.inside ∙ sym (map-map protein_in (digest_at bytes) (slice lo hi old)));
      ahead = λ i h k. arranged-between Name names lo hi n (2 * n) mid a b s l i h k ∙ r.rest i (inr h);
      rest =
          framed_then lo (2 * n) old mid (arranged Name names lo hi n (2 * n) mid) (framed_within lo lo hi (2 * n) old mid (omega arith) (omega arith) r.rest)
          (framed_within lo lo (n + (hi - lo)) (2 * n) mid (arranged Name names lo hi n (2 * n) mid) (omega arith) s (arranged-rest Name names lo hi n (2 * n) mid a b s l));
    }

-- ---- a turn

module _ {names letters bytes : List ℕ} {n : ℕ} {w₀ groups₀ : List ℕ} {lo g : ℕ} {w groups : List ℕ} (a : RunsAhead names letters bytes n w₀ groups₀ lo g w groups) (some : lo < n)
    {hi : ℕ} {w' groups' : List ℕ} (t : RunGrouped names letters bytes n lo w groups g hi w' groups') where
  run : ℕ
  run = run_length (digest_order letters n w) (slice lo n w)

  long : length (slice lo n w) ≡ n - lo
  long = length-slice lo n w (omega (arith, a.ready.fits))

  pub hi_above : lo < hi
  hi_above = omega (arith, t.ends, run-some (digest_order letters n w) (slice lo n w) (omega (arith, long)))

  pub hi-below : hi ≤ n
  hi-below = omega (arith, t.ends, run_most (digest_order letters n w) (slice lo n w), long)

  keys : drop (2 * n) w' ≡ drop (2 * n) w
  keys = drop-same (2 * n) w' w t.list.same_length (λ i h. t.list.rest i (inr h))

  -- the order is the same, and so is what stands ahead
  rest : runs_from letters bytes n w' hi ≡ map (map (digest_at bytes)) (runs_of (digest_order letters n w) (slice hi n w))
  rest =
      ap₂ (λ (k l : List ℕ). map (map (digest_at bytes)) (runs_of (le_by (Spelled n) letters k) l)) keys
      (slice-same hi n w' w (omega (arith, t.list.same_length, a.ready.fits)) (omega (arith, a.ready.fits)) t.list.ahead)

  -- the first run and the others
  split : runs_from letters bytes n w lo ≡ map (digest_at bytes) (slice lo hi w) ∷ runs_from letters bytes n w' hi
  split =
      ap (map (map (digest_at bytes))) (runs_slice (digest_order letters n w) w lo n some (omega (arith, a.ready.fits)) ∙ ap (λ (z : ℕ). slice lo z w ∷ runs_of (digest_order letters n w) (slice z n w)) (sym t.ends))
      ∙ ap (λ (r : List (List (List ℕ))). map (digest_at bytes) (slice lo hi w) ∷ r) (sym rest)

  front : slice lo hi w ≡ get_or w lo 0 ∷ slice (suc lo) hi w
  front = slice-cons lo hi w 0 hi_above (omega (arith, hi-below, a.ready.fits))

  wide : length (map (digest_at bytes) (slice lo hi w)) ≡ hi - lo
  wide = length-map (slice lo hi w) (digest_at bytes) ∙ length-slice lo hi w (omega (arith, hi-below, a.ready.fits))

  next : lo + length (map (digest_at bytes) (slice lo hi w)) ≡ hi
  next = omega (arith, wide, hi_above)

  one : group_of lo (map (digest_at bytes) (slice lo hi w)) ≡ (digest_at bytes (get_or w lo 0) ++ le 4 lo ++ le 4 (hi - lo)) ∷ []
  one =
      ap (λ (l : List ℕ). group_of lo (map (digest_at bytes) l)) front
      ∙ ap (λ (k : ℕ). (digest_at bytes (get_or w lo 0) ++ le 4 lo ++ le 4 k) ∷ []) (sym (ap (λ (l : List ℕ). length (map (digest_at bytes) l)) front) ∙ wide)

  records : groups_from lo (runs_from letters bytes n w lo) ≡ (digest_at bytes (get_or w lo 0) ++ le 4 lo ++ le 4 (hi - lo)) ∷ groups_from hi (runs_from letters bytes n w' hi)
  records =
      ap (groups_from lo) split
      ∙ ap₂ (λ (r : List (List ℕ)) (z : ℕ). r ++ groups_from z (runs_from letters bytes n w' hi)) one next

  done : take hi w' ≡ take lo w ++ proteins_of names (map (digest_at bytes) (slice lo hi w))
  done =
      sym (slice-join 0 lo hi w' (omega arith) (omega (arith, hi_above)) (omega (arith, hi-below, t.list.same_length, a.ready.fits)))
      ∙ ap₂ (λ (x y : List ℕ). x ++ y)
      (slice-same 0 lo w' w (omega (arith, hi_above, hi-below, t.list.same_length, a.ready.fits)) (omega (arith, hi_above, hi-below, a.ready.fits)) (λ i h k. t.list.rest i (inl k)))
      t.list.proteins

  pub ahead_more : RunsAhead names letters bytes n w₀ groups₀ hi (g + 1) w' groups'
  ahead_more = record {
    ready = record {
      whole = a.ready.whole;
      few = a.ready.few;
      fits = omega (arith, t.list.same_length, a.ready.fits);
      numbers = λ i h k. let e = t.list.ahead i h k in subst (λ (x : ℕ). x < n) (sym e) (a.ready.numbers i (omega (arith, hi_above)) k);
    };
    low = hi-below;
    few = omega (arith, hi_above, a.few);
    same_length = t.list.same_length ∙ a.same_length;
    same-groups = ap length t.group ∙ length-stored 28 1048576 groups g (digest_at bytes (get_or w lo 0) ++ le 4 lo ++ le 4 (hi - lo)) ∙ a.same-groups;
    keys = keys ∙ a.keys;
    stores =
        rw (add-one g)
        (ap (λ (x : List ℕ). stored_from 28 1048576 x (suc g) (groups_from hi (runs_from letters bytes n w' hi))) t.group
        ∙ sym (ap (stored_from 28 1048576 groups g) records) ∙ a.stores);
    lists =
        ap (λ (x : List ℕ). x ++ protein_list names (runs_from letters bytes n w' hi)) done
        ∙ append_assoc (take lo w) (proteins_of names (map (digest_at bytes) (slice lo hi w))) (protein_list names (runs_from letters bytes n w' hi))
        ∙ sym (ap (λ (r : List (List (List ℕ))). take lo w ++ protein_list names r) split)
        ∙ a.lists;
    count = omega (arith, ap (λ (r : List (List (List ℕ))). length r) split, a.count);
  }

-- ---- the beginning and the end

pub ahead-start : {names letters bytes : List ℕ} {n : ℕ} {w groups : List ℕ} → DigestsReady bytes n 0 w → RunsAhead names letters bytes n w groups 0 0 w groups
ahead-start r = record {
  ready = r;
  low = omega arith;
  few = omega arith;
  same_length = refl;
  same-groups = refl;
  keys = refl;
  stores = refl;
  lists = refl;
  count = omega arith;
}

module _ {names letters bytes : List ℕ} {n : ℕ} {w₀ groups₀ : List ℕ} {lo g : ℕ} {w groups : List ℕ} (a : RunsAhead names letters bytes n w₀ groups₀ lo g w groups) (end : n ≤ lo) where
  at_end : lo ≡ n
  at_end = omega (arith, a.low)

  none : runs_from letters bytes n w lo ≡ []
  none = ap (λ (z : ℕ). map (map (digest_at bytes)) (runs_of (digest_order letters n w) (slice z n w))) at_end ∙ ap (λ (l : List ℕ). map (map (digest_at bytes)) (runs_of (digest_order letters n w) l)) (slice_empty n w)

  pub ahead-all : RunsGathered names letters bytes n w₀ groups₀ g w groups
  ahead-all = record {
    same_length = a.same_length;
    stores = sym (ap (λ (r : List (List (List ℕ))). stored_from 28 1048576 groups g (groups_from lo r)) none) ∙ a.stores;
    lists = ap (λ (z : ℕ). take z w) (sym at_end) ∙ sym (append-nil (take lo w)) ∙ sym (ap (λ (r : List (List (List ℕ))). take lo w ++ protein_list names r) none) ∙ a.lists;
    number = omega (arith, a.count, ap (λ (r : List (List (List ℕ))). length r) none);
    few = omega (arith, a.few, a.low);
  }

-- ---- for the code

-- a record in three stores
pub group_stores : (out : List ℕ) (k : ℕ) (d : List ℕ) (a b : ℕ) → length d ≡ 20 → sets (sets (sets out k d) (k + 20) (le 4 a)) (k + 24) (le 4 b) ≡ sets out k (d ++ le 4 a ++ le 4 b)
group_stores out k d a b h =
    let n : k + length d ≡ k + 20 = omega arith in
    let m : k + length (d ++ le 4 a) ≡ k + 24 = omega (arith, length-append d (le 4 a), length-le 4 a) in
    sym (
    sets_append (d ++ le 4 a) (le 4 b) out k
    ∙ ap₂ (λ (l : List ℕ) (z : ℕ). sets l z (le 4 b)) (sets_append d (le 4 a) out k ∙ ap (λ (z : ℕ). sets (sets out k d) z (le 4 a)) n) m
    )

-- the run from lo on ends at hi
pub record RunStops (letters : List ℕ) (n lo : ℕ) (w : List ℕ) (hi : ℕ) : Type 0 where
  pub is : hi ≡ lo + run_length (digest_order letters n w) (slice lo n w)
  pub above : lo ≤ hi
  pub below : hi ≤ n

pub run_stops : (letters : List ℕ) {bytes : List ℕ} {n lo : ℕ} {w : List ℕ} {hi : ℕ} → DigestsReady bytes n lo w → lo < n
    → hi ≡ cond (leb lo n && leb n (length w) && leb (2 * n) (length w)) (lo + run_length (digest_order letters n w) (slice lo n w)) lo → RunStops letters n lo w hi
run_stops letters {bytes} {n} {lo} {w} {hi} r h p =
    let e : hi ≡ lo + run_length (digest_order letters n w) (slice lo n w) = p ∙ rw (le-leb lo n (omega arith), le-leb n (length w) (omega (arith, r.fits)), le-leb (2 * n) (length w) r.fits) in
    record { is = e; above = omega arith; below = omega (arith, run_most (digest_order letters n w) (slice lo n w), length-slice lo n w (omega (arith, r.fits))) }

-- the digest at lo is one of them
pub first-whole : {bytes : List ℕ} {n lo : ℕ} {w : List ℕ} → DigestsReady bytes n lo w → lo < n → (20 * get_or w lo 0 + 20 ≤ length bytes) × (20 * get_or w lo 0 + 20 ≤ 20971520)
first-whole {lo = lo} r h = let k = r.numbers lo (omega arith) h in (omega (arith, r.whole), omega (arith, r.few))

pub length-digest : (bytes : List ℕ) (i : ℕ) → 20 * i + 20 ≤ length bytes → length (digest_at bytes i) ≡ 20
length-digest bytes i h = length-take-le 20 (drop (20 * i) bytes) (omega (arith, length-drop (20 * i) bytes))
