-- How long a line is. Assumes nothing.
use Rattle.std.specs.Prelude.{ℕ, zero, suc, ◌+◌, ◌*◌, ◌≤◌, ◌<◌, ◌≡◌, Bool, cond, List, [], ◌∷◌, ◌++◌, map, length, drop}
use Rattle.std.proofs.Common.{sym, ◌∙◌, ⊎_elim, append-nil, arith, add-one, lt-ltb, le-ltb, length-append}
use Rattle.lists.specs.Tests.{below?}
use Rattle.sorting_spec.specs.Sort.{sorted}
use Rattle.sorting_spec.specs.SortLaws.{total-sorted}
use Rattle.sorting_spec.specs.Lex.{lex_le}
use Rattle.sorting_spec.specs.Joined.{join_after, join}
use Rattle.sorting_spec.specs.JoinLaws.{length-joined}
use Rattle.sorting_texts.specs.Text.{entry_text}
use Rattle.sorting_texts.specs.EntryLaws.{entry_short}
use Rattle.report_lines_write.specs.Laid.{bound_in, stretch_in, some_in, somes, text_in, line_in, StretchesLaid}
use Rattle.report_lines_write.specs.ListLaws.{kept-up}
use Rattle.report_lines_write.specs.ReadyLaws.{stretch_adds}

pub join-length : (by : ℕ) (ls : List (List ℕ)) → length (join by ls) ≤ length (join_after by ls)
join-length by [] = omega arith
join-length by (l ∷ ls) = omega arith

after-snoc : (by : ℕ) (ls : List (List ℕ)) (l : List ℕ) → length (join_after by (ls ++ (l ∷ []))) ≡ length (join_after by ls) + suc (length l)
after-snoc by [] l = omega (arith, length-append l [])
after-snoc by (k ∷ ls) l =
    omega (arith, length-append k (join_after by (ls ++ (l ∷ []))), after-snoc by ls l, length-append k (join_after by ls))

-- sorting leaves the length
after_sorted : (by : ℕ) (le : List ℕ → List ℕ → Bool) (ls : List (List ℕ)) → length (join_after by (sorted le ls)) ≡ length (join_after by ls)
after_sorted by le ls = length-joined by (sorted le ls) ∙ total-sorted (λ (l : List ℕ). suc (length l)) le ls ∙ sym (length-joined by ls)

entries_short : (names keys xs : List ℕ) → length (join_after 47 (map (entry_text names keys) xs)) ≤ 81 * length xs
entries_short names keys [] = omega arith
entries_short names keys (x ∷ xs) = omega (arith, length-append (entry_text names keys x) (join_after 47 (map (entry_text names keys) xs)), entry_short names keys x, entries_short names keys xs)

text_short : (names keys xs : List ℕ) → 0 < length xs → suc (length (join 47 (map (entry_text names keys) xs))) ≤ 81 * length xs
text_short names keys [] h = absurd (omega arith)
text_short names keys (x ∷ xs) h = omega (arith, length-append (entry_text names keys x) (join_after 47 (map (entry_text names keys) xs)), entry_short names keys x, entries_short names keys xs)

module _ (names w : List ℕ) (c groups : ℕ) (l : StretchesLaid w c groups) where
  -- one group more
  text-more : (k : ℕ) (ts : List (List ℕ)) → k < groups → length (join_after 59 ts) ≤ 81 * bound_in w (2 * c + 16) k
      → length (join_after 59 (ts ++ cond (some_in w (2 * c + 16) k) (text_in names w c k ∷ []) [])) ≤ 81 * bound_in w (2 * c + 16) (k + 1)
  text-more k ts h ih = ⊎_elim more none (below? (bound_in w (2 * c + 16) k) (bound_in w (2 * c + 16) (k + 1)))
    where
      more : bound_in w (2 * c + 16) k < bound_in w (2 * c + 16) (k + 1)
          → length (join_after 59 (ts ++ cond (some_in w (2 * c + 16) k) (text_in names w c k ∷ []) [])) ≤ 81 * bound_in w (2 * c + 16) (k + 1)
      more g =
          rw (lt-ltb (bound_in w (2 * c + 16) k) (bound_in w (2 * c + 16) (k + 1)) g)
          (omega (arith, after-snoc 59 ts (text_in names w c k), stretch_adds w c groups l k h, text_short names (drop (2 * c) w) (stretch_in w (2 * c + 16) k) (omega (arith, stretch_adds w c groups l k h))))

      none : bound_in w (2 * c + 16) (k + 1) ≤ bound_in w (2 * c + 16) k
          → length (join_after 59 (ts ++ cond (some_in w (2 * c + 16) k) (text_in names w c k ∷ []) [])) ≤ 81 * bound_in w (2 * c + 16) (k + 1)
      none g =
          rw (le-ltb (bound_in w (2 * c + 16) k) (bound_in w (2 * c + 16) (k + 1)) g, append-nil ts) (omega (arith, l.rising k h))

  texts_short : (k : ℕ) → k ≤ groups → length (join_after 59 (map (text_in names w c) (somes w (2 * c + 16) k))) ≤ 81 * bound_in w (2 * c + 16) k
  texts_short zero h = omega arith
  texts_short (suc k) h =
      rw (kept-up (some_in w (2 * c + 16)) (text_in names w c) k, ← add-one k)
      (text-more k (map (text_in names w c) (somes w (2 * c + 16) k)) (omega arith) (texts_short k (omega arith)))

  -- THE LAW of the length
  pub line_short : length (line_in names w c groups) ≤ 10616832
  unfolding line_in
  line_short =
      omega (arith, join-length 59 (sorted lex_le (map (text_in names w c) (somes w (2 * c + 16) groups))), after_sorted 59 lex_le (map (text_in names w c) (somes w (2 * c + 16) groups)), texts_short groups (omega arith), l.within, l.few)
