-- What the ranges and the links are after a record was linked in. Assumes nothing.
use Rattle.std.specs.Prelude.{ℕ, suc, ◌+◌, ◌-◌, ◌*◌, ◌≤◌, ◌<◌, ◌≡◌, Bool, true, false, cond, ◌⊎◌, List, [], ◌∷◌, ◌++◌, length, get_or, set, eqb}
use Rattle.std.proofs.Common.{sym, subst, ◌∙◌, inl, inr, ⊎_elim, arith, add-one, length-set, ext_get_or, get_or-set_same, get_or-set_other, eq-eqb, ne_eqb}
use Rattle.std.proofs.lemmas.List.Edits.{sets}
use Rattle.std.proofs.Math.Seq.{length-sets}
use Rattle.lists.specs.Tests.{below?, same?}
use Rattle.records.specs.Le.{le}
use Rattle.records.specs.LeLaws.{length-le, Apart, number-stored, number_apart}
use Rattle.enzyme_cuts.specs.Cutting.{Range}
use Rattle.enzyme_keep.specs.Digests.{record_of}
use Rattle.enzyme_keep.specs.Buffer.{ranges_in, links_in}
use Rattle.enzyme_keep.specs.BufferLaws.{length-ranges, length_links, ranges-behind, ranges_more, links_more, link_read}
use Rattle.enzyme_list.specs.Chain.{next_of, ListFrom, links_with, head_with}
use Rattle.enzyme_list.specs.Insert.{inserted_in, Inserted}
use Rattle.enzyme_list.specs.InsertLaws.{listed-insert}

-- ---- a link stored

links_set : (k : ℕ) (out : List ℕ) (v j : ℕ) → j < k → 20 * k ≤ length out → v < 4294967296 → links_in k (sets out (20 * j + 12) (le 4 v)) ≡ set (links_in k out) j v
links_set k out v j h l b =
    let n = length_links k (sets out (20 * j + 12) (le 4 v)) in
    let m = length-set (links_in k out) j v in
    let o = length_links k out in
    ext_get_or 0 (links_in k (sets out (20 * j + 12) (le 4 v))) (set (links_in k out) j v) (omega arith) (λ i g. at i (omega arith) (same? i j))
  where
    at : (i : ℕ) → i < k → (i ≡ j) ⊎ (i ≡ j → ⊥) → get_or (links_in k (sets out (20 * j + 12) (le 4 v))) i 0 ≡ get_or (set (links_in k out) j v) i 0
    at i g (inl e) =
        let o = length_links k out in
        rw e (link_read k (sets out (20 * j + 12) (le 4 v)) j h ∙ number-stored 4 v out (20 * j + 12) (omega arith) b ∙ sym (get_or-set_same (links_in k out) j v 0 (omega arith)))
    at i g (inr e) =
        let n : length (le 4 v) ≡ 4 = length-le 4 v in
        let p : Apart (20 * i + 12) 4 (20 * j + 12) (length (le 4 v)) = ⊎_elim (λ (z : i < j). inl (omega arith)) (λ (z : j ≤ i). inr (away z)) (below? i j) in
        link_read k (sets out (20 * j + 12) (le 4 v)) i g ∙ number_apart 4 (le 4 v) out (20 * j + 12) (20 * i + 12) p ∙ sym (link_read k out i g) ∙ sym (get_or-set_other (links_in k out) j i v 0 e)
      where
        away : j ≤ i → 20 * j + 12 + length (le 4 v) ≤ 20 * i + 12
        away z =
            let n : length (le 4 v) ≡ 4 = length-le 4 v in
            ⊎_elim (λ (y : j < i). omega arith) (λ (y : i ≤ j). absurd (e (omega arith))) (below? j i)

-- ---- a record linked in

module _ (s : List ℕ) (count head p : ℕ) (r : Range) (times : ℕ) (old : List ℕ) (h : 20 * count + 20 ≤ length old) (small : length s ≤ 65536) (i : r.from ≤ r.to) (j : r.to ≤ length s) (k : p ≤ count) where
  inserted-ranges : (x : ℕ) → ranges_in (suc count) (inserted_in (length s) r times count p x old) ≡ ranges_in count old ++ (r ∷ [])
  inserted-ranges x = go (eqb p 0)
    where
      go : (t : Bool) → ranges_in (suc count) (cond t (sets old (20 * count) (record_of (length s) x r times)) (sets (sets old (20 * count) (record_of (length s) x r times)) (20 * (p - 1) + 12) (le 4 (suc count)))) ≡ ranges_in count old ++ (r ∷ [])
      go true = ranges_more (length s) x r times count old h small i j
      go false = ranges-behind (le 4 (suc count)) (p - 1) (20 * (p - 1) + 12) (suc count) (sets old (20 * count) (record_of (length s) x r times)) (omega arith) (omega arith) ∙ ranges_more (length s) x r times count old h small i j

  inserted_links : count < 1048576 → next_of (links_in count old) head p ≤ count
      → links_in (suc count) (inserted_in (length s) r times count p (next_of (links_in count old) head p) old) ≡ links_with (links_in count old) head p
  inserted_links low few = go (eqb p 0)
    where
      go : (t : Bool) → links_in (suc count) (cond t (sets old (20 * count) (record_of (length s) (next_of (links_in count old) head p) r times)) (sets (sets old (20 * count) (record_of (length s) (next_of (links_in count old) head p) r times)) (20 * (p - 1) + 12) (le 4 (suc count))))
          ≡ cond t (links_in count old ++ (next_of (links_in count old) head p ∷ [])) (set (links_in count old ++ (next_of (links_in count old) head p ∷ [])) (p - 1) (suc (length (links_in count old))))
      go true = links_more (length s) (next_of (links_in count old) head p) r times count old h (omega arith)
      go false =
          let n = length_links count old in
          let m = length-sets old (20 * count) (record_of (length s) (next_of (links_in count old) head p) r times) in
          links_set (suc count) (sets old (20 * count) (record_of (length s) (next_of (links_in count old) head p) r times)) (suc count) (p - 1) (omega arith) (omega arith) (omega arith)
          ∙ rw (links_more (length s) (next_of (links_in count old) head p) r times count old h (omega arith), n)

  pub record_inserted : count < 1048576 → next_of (links_in count old) head p ≤ count → (new : List ℕ) (first : ℕ)
      → new ≡ inserted_in (length s) r times count p (next_of (links_in count old) head p) old → first ≡ head_with (links_in count old) head p → Inserted s count head p r times old new first
  record_inserted low few new first e f = record {
    bytes = e;
    ranges = rw e (inserted-ranges (next_of (links_in count old) head p));
    listed = λ xs ys l g lo hi.
        let n = length_links count old in
        let m = length-ranges count old in
        let t = listed-insert s (ranges_in count old) (links_in count old) head p r xs ys (m ∙ sym n) l g lo hi in
        rw (e, f, inserted-ranges (next_of (links_in count old) head p), inserted_links low few)
        (subst (λ (v : ℕ). ListFrom s (ranges_in count old ++ (r ∷ [])) (links_with (links_in count old) head p) (head_with (links_in count old) head p) (xs ++ (suc v ∷ ys))) n t);
  }

-- ---- before all, or behind a record

pub first_bytes : (n : ℕ) (r : Range) (times count p x : ℕ) (out : List ℕ) → p ≡ 0 → sets out (20 * count) (record_of n x r times) ≡ inserted_in n r times count p x out
first_bytes n r times count p x out e = rw (eq-eqb p 0 e)

pub first_head : (count head p : ℕ) (out : List ℕ) → p ≡ 0 → count + 1 ≡ head_with (links_in count out) head p
first_head count head p out e = rw (eq-eqb p 0 e, length_links count out) (add-one count)

pub behind_bytes : (n : ℕ) (r : Range) (times count p x : ℕ) (out : List ℕ) → (p ≡ 0 → ⊥) → sets (sets out (20 * count) (record_of n x r times)) (20 * (p - 1) + 12) (le 4 (count + 1)) ≡ inserted_in n r times count p x out
behind_bytes n r times count p x out e = rw (ne_eqb p 0 e, add-one count)

pub behind-head : (count head p : ℕ) (out : List ℕ) → (p ≡ 0 → ⊥) → head ≡ head_with (links_in count out) head p
behind-head count head p out e = rw (ne_eqb p 0 e)
