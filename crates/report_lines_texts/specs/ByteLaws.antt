-- That the numbers of a group's text are bytes. Assumes nothing.
use Rattle.std.specs.Prelude.{ℕ, ◌+◌, ◌*◌, ◌/◌, ◌%◌, ◌<◌, Bool, true, false, cond, List, [], ◌∷◌, ◌++◌, map, eqb, get_or, take, drop}
use Rattle.std.proofs.Common.{arith, length-take, length-drop, get_or-take}
use Rattle.lists.specs.Lists.{All}
use Rattle.lists.specs.KeepLaws.{map-all}
use Rattle.lists.specs.KeyLaws.{Under, under_of, under_both}
use Rattle.sorting_spec.specs.Joined.{until_zero, name_of, join_after, join}
use Rattle.sorting_spec.specs.PartLaws.{at_slice}
use Rattle.sorting_texts.specs.Text.{tag_in, entry_text, up_to_last, joined_text}

bytes_until : (xs : List ℕ) → Under 256 xs → Under 256 (until_zero xs)
bytes_until [] p = tt
bytes_until (x ∷ xs) p = go (eqb x 0) (bytes_until xs p.1)
  where
    go : (t : Bool) → Under 256 (until_zero xs) → Under 256 (cond t [] (x ∷ until_zero xs))
    go true r = tt
    go false r = (p.0, r)

bytes_after : (ls : List (List ℕ)) → All (Under 256) ls → Under 256 (join_after 47 ls)
bytes_after [] h = tt
bytes_after (l ∷ ls) h = (omega arith, under_both 256 l (join_after 47 ls) h.0 (bytes_after ls h.1))

bytes_join : (ls : List (List ℕ)) → All (Under 256) ls → Under 256 (join 47 ls)
bytes_join [] h = tt
bytes_join (l ∷ ls) h = (bytes_after (l ∷ ls) h).1

module _ (names keys : List ℕ) (p : (i : ℕ) → get_or names i 0 < 256) (q : (i : ℕ) → i < 16 → get_or keys i 0 < 256) where
  bytes_tag : Under 256 (tag_in keys)
  bytes_tag = bytes_until (take 16 keys) (under_of 256 (take 16 keys) (λ i h. let k : i < 16 = omega (arith, length-take 16 keys) in rw (get_or-take 16 keys i 0 k) (q i k)))

  bytes_name : (x : ℕ) → Under 256 (until_zero (name_of names x))
  bytes_name x =
      bytes_until (name_of names x)
      (under_of 256 (name_of names x)
      (λ i h.
      let k : x * 64 + i < x * 64 + 64 = omega (arith, length-drop (x * 64) (take (x * 64 + 64) names), length-take (x * 64 + 64) names) in
      rw (at_slice (x * 64) (x * 64 + 64) names i k) (p (x * 64 + i))))

  bytes_entry : (x : ℕ) → Under 256 (entry_text names keys x)
  bytes_entry x = go (eqb (x / 2 % 2) 1)
    where
      go : (t : Bool) → Under 256 (cond t (tag_in keys) [] ++ until_zero (name_of names (x / 4)))
      go true = under_both 256 (tag_in keys) (until_zero (name_of names (x / 4))) bytes_tag (bytes_name (x / 4))
      go false = bytes_name (x / 4)

  -- THE LAW of the numbers
  pub bytes_joined : (x : ℕ) → Under 256 (joined_text names keys x)
  bytes_joined x = bytes_join (map (entry_text names keys) (up_to_last (drop (16 + x) keys))) (map-all (Under 256) (entry_text names keys) bytes_entry (up_to_last (drop (16 + x) keys)))
