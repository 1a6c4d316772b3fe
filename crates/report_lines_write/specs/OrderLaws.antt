-- The starts of the groups in the order of their texts. Assumes nothing.
use Rattle.std.specs.Prelude.{ℕ, ◌+◌, ◌-◌, ◌*◌, ◌≤◌, ◌<◌, ◌≡◌, true, List, map, get_or, take, drop}
use Rattle.std.proofs.Common.{sym, ◌∙◌, arith, length-take, get_or-take, get_or-drop}
use Rattle.std.proofs.Math.Path.{ap}
use Rattle.std.proofs.Math.Nat.{sub-zero}
use Rattle.std.proofs.Math.ListN.{length, length-map}
use Rattle.std.proofs.lemmas.List.Edits.{sets}
use Rattle.records.specs.Room.{fitted, singly}
use Rattle.sorting_texts.specs.declared.text.By.TheVariants.{Joined}
use Rattle.sorting_spec.specs.Sort.{sorted}
use Rattle.sorting_spec.specs.SortLaws.{sorted-map, length-sorted}
use Rattle.sorting_spec.specs.Lex.{lex_le}
use Rattle.sorting_spec.specs.Joined.{join}
use Rattle.sorting_texts.specs.Text.{joined_text, le_by}
use Rattle.sorting_spec.specs.PartLaws.{rest_all}
use Rattle.sorting_slices.specs.Sorting.{fitting, arranged}
use Rattle.sorting_slices.specs.SortingLaws.{order-fitting, length-arranged, arranged-sorted, arranged-drop}
use Rattle.report_lines_write.specs.Laid.{bound_in, somes, text_in, line_in, count_in, StretchesLaid}
use Rattle.report_lines_write.specs.ReadyLaws.{TextsReady, ready_texts}
use Rattle.report_lines_write.specs.SizeLaws.{line_short}
use Rattle.report_lines_texts.specs.WriteLaws.{put-fits}

-- the texts of the first `count` numbers are the line's, in its order
pub record LineOrdered (names w₀ : List ℕ) (c groups : ℕ) (w : List ℕ) (count : ℕ) : Type 0 where
  pub as_long : length w ≡ length w₀
  pub counted : count ≤ groups
  pub texts : join 59 (map (joined_text names (drop (2 * c) w)) (take count w)) ≡ line_in names w₀ c groups
  pub as_many : length (take count w) ≡ length (somes w₀ (2 * c + 16) groups)
  pub small : (i : ℕ) → i < 16 → get_or (drop (2 * c) w) i 0 < 256

module _ (names : List ℕ) {w₀ : List ℕ} {c groups : ℕ} (l : StretchesLaid w₀ c groups) {w : List ℕ} {count : ℕ} (r : TextsReady w₀ c groups w count) where
  pub sort_fits : fitting 0 count c (2 * c) (length w) ≡ true
  sort_fits =
      order-fitting 0 count c (2 * c) (length w) (omega arith) (omega (arith, r.counted, l.fit)) (omega (arith, r.counted, l.fit)) (omega (arith, r.as_long, l.long))

  abbrev sorted_by : List ℕ
  sorted_by = arranged Joined names 0 count c (2 * c) w

  same_keys : drop (2 * c) sorted_by ≡ drop (2 * c) w
  same_keys =
      arranged-drop Joined names 0 count c (2 * c) w (omega arith) (omega (arith, r.counted, l.fit)) (omega (arith, r.counted, l.fit)) (omega (arith, r.as_long, l.long))
      (2 * c) (omega (arith, r.counted, l.fit))

  same_length : length sorted_by ≡ length w
  same_length =
      length-arranged Joined names 0 count c (2 * c) w (omega arith) (omega (arith, r.counted, l.fit)) (omega (arith, r.counted, l.fit)) (omega (arith, r.as_long, l.long))

  in_order : take count sorted_by ≡ sorted (le_by Joined names (drop (2 * c) w)) (take count w)
  in_order =
      arranged-sorted Joined names 0 count c (2 * c) w (omega arith) (omega (arith, r.counted, l.fit)) (omega (arith, r.counted, l.fit)) (omega (arith, r.as_long, l.long))

  text-order : map (joined_text names (drop (2 * c) sorted_by)) (take count sorted_by) ≡ sorted lex_le (map (text_in names w₀ c) (somes w₀ (2 * c + 16) groups))
  text-order =
      ap (λ (k : List ℕ). map (joined_text names k) (take count sorted_by)) same_keys
      ∙ ap (map (joined_text names (drop (2 * c) w))) in_order
      ∙ sym (sorted-map lex_le (joined_text names (drop (2 * c) w)) (take count w))
      ∙ ap (sorted lex_le) (ready_texts w₀ c groups l w count r names)

  tag_small : (i : ℕ) → i < 16 → get_or (drop (2 * c) w) i 0 < 256
  tag_small i h =
      let e : get_or (drop (2 * c) w) i 0 ≡ get_or w₀ (2 * c + i) 0 =
      sym (get_or-take 16 (drop (2 * c) w) i 0 h) ∙ ap (λ (k : List ℕ). get_or k i 0) r.tag ∙ get_or-take 16 (drop (2 * c) w₀) i 0 h ∙ get_or-drop (2 * c) w₀ i 0 in
      rw e (l.small i h)

  -- THE LAW of the order
  pub line_ordered : LineOrdered names w₀ c groups (arranged Joined names 0 count c (2 * c) w) count
  unfolding line_in
  line_ordered = record {
    as_long = same_length ∙ r.as_long;
    counted = r.counted;
    texts = ap (join 59) text-order;
    as_many =
        ap length in_order
        ∙ length-sorted (le_by Joined names (drop (2 * c) w)) (take count w)
        ∙ ap length r.starts
        ∙ length-map (somes w₀ (2 * c + 16) groups) (bound_in w₀ (2 * c + 16));
    small = λ i h. rw same_keys (tag_small i h);
  }

-- the front of a slice as it is lent
pub front_all : (n : ℕ) (w : List ℕ) → take (n - 0) (drop 0 w) ≡ take n w
front_all n w = ap (λ (k : ℕ). take k w) (sub-zero n)

-- the parts of the slice as they are lent
module _ {names w₀ : List ℕ} {c groups : ℕ} {w : List ℕ} {count : ℕ} (o : LineOrdered names w₀ c groups w count) where
  abbrev starts : List ℕ
  starts = take (count - 0) (drop 0 w)

  abbrev keys : List ℕ
  keys = take (length w - 2 * c) (drop (2 * c) w)

  abbrev texts : List ℕ
  texts = join 59 (map (joined_text names keys) starts)

  line-lent : texts ≡ line_in names w₀ c groups
  line-lent =
      ap (λ (k : List ℕ). join 59 (map (joined_text names k) starts)) (rest_all (2 * c) w)
      ∙ ap (λ (s : List ℕ). join 59 (map (joined_text names (drop (2 * c) w)) s)) (front_all count w)
      ∙ o.texts

  count-lent : length starts ≡ count_in w₀ c groups
  count-lent = ap length (front_all count w) ∙ o.as_many

  pub lined-fits : StretchesLaid w₀ c groups → ((i : ℕ) → i < 16 → get_or keys i 0 < 256) × (length texts < 4294967296) × (length starts < 4294967296)
  lined-fits l = (
    λ i h. rw (rest_all (2 * c) w) (o.small i h),
    omega (arith, ap length line-lent, line_short names w₀ c groups l),
    omega (arith, length-take (count - 0) (drop 0 w), o.counted, l.fit, l.few),
  )

  -- THE LAW of the line
  pub lined-written : (old new : List ℕ) (bytes named : ℕ) → (new ≡ sets old 0 texts) × (bytes ≡ length texts) × (named ≡ length starts)
      → (new ≡ fitted 1 (length old) old (singly (line_in names w₀ c groups))) × (bytes ≡ length (line_in names w₀ c groups)) × (named ≡ count_in w₀ c groups)
  lined-written old new bytes named p = (p.0 ∙ ap (sets old 0) line-lent ∙ put-fits old (line_in names w₀ c groups), p.1 ∙ ap length line-lent, p.2 ∙ count-lent)
