-- How the count of groups relates to the `;` of the line, by which the Rust counts. Assumes nothing.
use Prim.Native.Nat.{ℕ, suc, ◌+◌, ◌<◌}
use Rattle.std.specs.Prelude.{◌≡◌, refl, Bool}
use Rattle.std.proofs.Common.{sym, ◌∙◌, arith, zero-add}
use Rattle.std.proofs.Math.Path.{ap}
use mathlib.Core.List.{List, [], ◌∷◌, map}
use Rattle.std.proofs.Math.ListN.{length, length-map}
use Rattle.lists.specs.Lists.{In, times}
use Rattle.lists.specs.InLaws.{no_places}
use Rattle.lists.specs.TotalLaws.{total, total-map, total-alike, total-zero}
use Rattle.sorting_spec.specs.Sort.{sorted}
use Rattle.sorting_spec.specs.SortLaws.{total-sorted, length-sorted}
use Rattle.sorting_spec.specs.Lex.{lex_le}
use Rattle.sorting_spec.specs.Joined.{join}
use Rattle.sorting_spec.specs.JoinLaws.{times-joined}
use Rattle.protein_groups_members.specs.Members.{Member}
use Rattle.report_lines_spec.specs.Line.{tagged, in_group, group_text, applying, line_text, line_count}

-- joined texts: their own `;`, and one for each but the first where they are joined by it
semicolons_by_slash : (ls : List (List ℕ)) → times 59 (join 47 ls) ≡ total (times 59) ls
semicolons_by_slash [] = refl
semicolons_by_slash (l ∷ ls) = times-joined 59 47 (l ∷ ls) ∙ zero-add (total (times 59) (l ∷ ls))

semicolons_by_semicolon : (ls : List (List ℕ)) → 0 < length ls → suc (times 59 (join 59 ls)) ≡ length ls + total (times 59) ls
semicolons_by_semicolon [] h = absurd (omega arith)
semicolons_by_semicolon (l ∷ ls) h = times-joined 59 59 (l ∷ ls)

module _ (names : List ℕ) (ms : List Member) (marks list : List ℕ) (decoy : Bool) (tag : List ℕ) (generated : Bool) where
  -- how many `;` the names of a group hold, tag included, and the names of all groups in the line
  abbrev pub semicolons_in : ℕ → ℕ
  semicolons_in g = total (λ (m : Member). times 59 (tagged names tag generated m)) (in_group ms g)

  abbrev pub semicolons_in_names : ℕ
  semicolons_in_names = total semicolons_in (applying ms marks list decoy)

  group_semicolons : (g : ℕ) → times 59 (group_text names ms tag generated g) ≡ semicolons_in g
  group_semicolons g =
      let texts : List (List ℕ) = map (tagged names tag generated) (in_group ms g) in
      semicolons_by_slash (sorted lex_le texts) ∙ total-sorted (times 59) lex_le texts ∙ total-map (times 59) (tagged names tag generated) (in_group ms g)

  -- THE LAW: where a group applies, the `;` of the line plus one are the count and the `;` in its names
  pub count_and_semicolons : 0 < line_count ms marks list decoy → suc (times 59 (line_text names ms marks list decoy tag generated)) ≡ line_count ms marks list decoy + semicolons_in_names
  unfolding line_text line_count
  count_and_semicolons h =
      let gs : List ℕ = applying ms marks list decoy in
      let texts : List (List ℕ) = map (group_text names ms tag generated) gs in
      let many : length (sorted lex_le texts) ≡ length gs = length-sorted lex_le texts ∙ length-map gs (group_text names ms tag generated) in
      let inside : total (times 59) (sorted lex_le texts) ≡ semicolons_in_names =
      total-sorted (times 59) lex_le texts
      ∙ total-map (times 59) (group_text names ms tag generated) gs
      ∙ total-alike (λ (g : ℕ). times 59 (group_text names ms tag generated g)) semicolons_in group_semicolons gs in
      semicolons_by_semicolon (sorted lex_le texts) (omega (arith, h, many)) ∙ omega (arith, many, inside)

  -- where no name in the line holds a `;`, tag included, the count is the number of `;` plus one
  pub count_of_semicolons : 0 < line_count ms marks list decoy
      → ((g : ℕ) → In g (applying ms marks list decoy) → (m : Member) → In m (in_group ms g) → times 59 (tagged names tag generated m) ≡ 0)
      → line_count ms marks list decoy ≡ suc (times 59 (line_text names ms marks list decoy tag generated))
  count_of_semicolons h none =
      let z : semicolons_in_names ≡ 0 =
      total-zero semicolons_in (applying ms marks list decoy) (λ g i. total-zero (λ (m : Member). times 59 (tagged names tag generated m)) (in_group ms g) (none g i)) in
      sym (omega (arith, count_and_semicolons h, z))

  -- where no group applies the line is empty
  pub no_groups-empty : line_count ms marks list decoy ≡ 0 → line_text names ms marks list decoy tag generated ≡ []
  unfolding line_text line_count
  no_groups-empty e = ap (λ (gs : List ℕ). join 59 (sorted lex_le (map (group_text names ms tag generated) gs))) (no_places (applying ms marks list decoy) e)
