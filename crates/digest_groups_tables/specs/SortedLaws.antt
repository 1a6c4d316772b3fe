-- Sorted numbers of digests: the tables, sorted, have the gathered digests as runs. Assumes nothing.
use Rattle.std.specs.Prelude.{ℕ, ◌+◌, ◌*◌, ◌≤◌, ◌<◌, ◌≡◌, Bool, cond, List, map, length, get_or, drop}
use Rattle.std.proofs.Common.{sym, ap, ap₂, ◌∙◌, subst, arith, ext_get_or}
use Rattle.std.proofs.Math.Seq.{slice, length-slice}
use Rattle.lists.specs.Lists.{up_from}
use Rattle.lists.specs.InLaws.{in-get_or}
use Rattle.lists.specs.RowLaws.{length_up, get_or_up, up_in}
use Rattle.sorting_texts.specs.declared.text.By.TheVariants.{Spelled}
use Rattle.sorting_spec.specs.Sort.{sorted}
use Rattle.sorting_spec.specs.SortLaws.{sorted_in, length-sorted}
use Rattle.sorting_texts.specs.Text.{le_by}
use Rattle.sorting_spec.specs.PartLaws.{at_slice}
use Rattle.sorting_spec.specs.Runs.{runs_of}
use Rattle.sorting_slices.specs.Sorting.{fitting, arranged}
use Rattle.sorting_slices.specs.SortingLaws.{order-fitting, length-arranged, arranged-sorted, arranged-drop}
use Rattle.digest_groups_spec.specs.DigestGroups.{digest_at}
use Rattle.digest_groups_words.specs.Tables.{GoodDigests, DigestTables}
use Rattle.digest_groups_tables.specs.KeyLaws.{gathered_runs}
use Rattle.digest_groups_runs.specs.Turns.{DigestsSorted}

module _ (bounds letters bytes : List ℕ) (n : ℕ) (w : List ℕ) (g : GoodDigests bounds letters bytes n) (t : DigestTables bounds letters bytes n n w) (l : 5 * n ≤ length w) where
  abbrev order : ℕ → ℕ → Bool
  order = le_by (Spelled n) letters (drop (2 * n) w)

  numbered : slice 0 n w ≡ up_from 0 n
  numbered =
      let m : length (slice 0 n w) ≡ n = length-slice 0 n w (omega arith) ∙ omega arith in
      ext_get_or 0 (slice 0 n w) (up_from 0 n) (m ∙ sym (length_up 0 n))
      (λ i h.
      let k : i < n = omega arith in
      let z : 0 + i ≡ i = omega arith in
      at_slice 0 n w i (omega arith) ∙ ap (λ (j : ℕ). get_or w j 0) z ∙ t.order i k ∙ sym (get_or_up 0 n i k ∙ z))

  abbrev new : List ℕ
  new = arranged (Spelled n) letters 0 n n (2 * n) w

  sorts : slice 0 n new ≡ sorted order (up_from 0 n)
  sorts = arranged-sorted (Spelled n) letters 0 n n (2 * n) w (omega arith) (omega arith) (omega arith) (omega arith) ∙ ap (sorted order) numbered

  keys : drop (2 * n) new ≡ drop (2 * n) w
  keys = arranged-drop (Spelled n) letters 0 n n (2 * n) w (omega arith) (omega arith) (omega arith) (omega arith) (2 * n) (omega arith)

  long : length new ≡ length w
  long = length-arranged (Spelled n) letters 0 n n (2 * n) w (omega arith) (omega arith) (omega arith) (omega arith)

  below : (i : ℕ) → 0 ≤ i → i < n → get_or new i 0 < n
  below i a h =
      let z : 0 + i ≡ i = omega arith in
      let m : length (sorted order (up_from 0 n)) ≡ n = length-sorted order (up_from 0 n) ∙ length_up 0 n in
      let e : get_or (sorted order (up_from 0 n)) i 0 ≡ get_or new i 0 = ap (λ (s : List ℕ). get_or s i 0) (sym sorts) ∙ at_slice 0 n new i (omega arith) ∙ ap (λ (j : ℕ). get_or new j 0) z in
      let r = up_in (get_or (sorted order (up_from 0 n)) i 0) 0 n (sorted_in order (get_or (sorted order (up_from 0 n)) i 0) (up_from 0 n) (in-get_or 0 (sorted order (up_from 0 n)) i (omega arith))) in
      omega (arith, r.1)

  pub sorted-tables : (w' : List ℕ) → w' ≡ cond (fitting 0 n n (2 * n) (length w)) (arranged (Spelled n) letters 0 n n (2 * n) w) w → DigestsSorted bounds letters bytes n w'
  sorted-tables w' e =
      let f = order-fitting 0 n n (2 * n) (length w) (omega arith) (omega arith) (omega arith) (omega arith) in
      let is : w' ≡ arranged (Spelled n) letters 0 n n (2 * n) w = e ∙ rw f in
      subst (DigestsSorted bounds letters bytes n) (sym is) (record {
        ready = record { whole = g.whole; few = g.few; fits = omega (arith, long); numbers = below };
        runs =
            ap₂ (λ (k s : List ℕ). map (map (digest_at bytes)) (runs_of (le_by (Spelled n) letters k) s)) keys sorts
            ∙ gathered_runs bounds letters bytes n w g t (omega (arith, g.whole));
      })
