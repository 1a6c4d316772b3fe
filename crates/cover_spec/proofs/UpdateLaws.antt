-- The update: where the old marks are the cover of the old edges, the answer is the cover of the new ones. Assumes nothing.
use Rattle.std.specs.Prelude.{Bool, ◌&&◌, List, [], ◌∷◌, ◌++◌, ℕ, ◌<◌, ◌≡◌}
use Rattle.std.proofs.Math.Bool.{true, false, not, cond, and-false}
use Rattle.std.proofs.Common.{true≢false, ◌∙◌, arith}
use Rattle.std.proofs.Math.Dec.{eqb}
use Rattle.std.proofs.Math.Path.{refl, sym, ap}
use borrow.Author.Tests.{eqb-true, eqb-false}
use Rattle.lists.specs.Lists.{bit, count, keep, All}
use Rattle.lists.specs.Tests.{and_within}
use Rattle.lists.specs.KeepLaws.{all_map, all_keep, count_ext, count-keep, count_none, count_append, all_append}
use Rattle.cover_spec.specs.Cover.{Edge, group, meta, cover, cover_list, same_edge}
use Rattle.cover_spec.specs.Update.{touched, update, update_list}
use Rattle.cover_spec.specs.CountLaws.{count_determined, same-edge}
use Rattle.cover_spec.proofs.PartLaws.{Closed}
use Rattle.cover_spec.proofs.ChoiceLaws.{GroupsUnder}
use Rattle.cover_spec.proofs.LocalityLaws.{cover_local}
use Rattle.cover_spec.specs.ListedLaws.{get_or_listed, listed_ext, bit_is}
use Rattle.cover_spec.proofs.ConnectedLaws.{here}
use Rattle.cover_spec.proofs.TouchedLaws.{touched_meta, touched_of, touched_linked}

module _ (n : ℕ) (old new : List Edge) where
  abbrev J : List Edge
  J = old ++ new

  sg : ℕ → Bool
  sg g = not (touched old new g)

  sm : ℕ → Bool
  sm m = not (touched_meta old new m)

  closed : Closed sg sm J
  unfolding sg sm
  closed = all_map (λ e h. ap not h) J (touched_linked old new)

  -- an edge whose group is untouched stands as often in one list as in the other
  untouched : (e : Edge) → sg (group e) ≡ true → count (same_edge e) old ≡ count (same_edge e) new
  unfolding sg
  untouched e i = go (eqb (count (same_edge e) old) (count (same_edge e) new)) refl
    where
      go : (b : Bool) → eqb (count (same_edge e) old) (count (same_edge e) new) ≡ b → count (same_edge e) old ≡ count (same_edge e) new
      go true j = eqb-true (count (same_edge e) old) (count (same_edge e) new) j
      go false j =
          let z : 0 < count (same_edge e) J = omega (arith, count_append (same_edge e) old new, eqb-false (count (same_edge e) old) (count (same_edge e) new) j) in
          absurd (true≢false (sym i ∙ ap not (touched_of old new (group e) (e, z, ap not j, here))))

  part-new : (p : Edge → Bool) → count (λ e. sg (group e) && p e) new ≡ count p (keep (λ e. sg (group e)) new)
  part-new p = sym (count-keep p (λ e. sg (group e)) new)

  part_old : (p : Edge → Bool) → count (λ e. sg (group e) && p e) old ≡ count p (keep (λ e. sg (group e)) new)
  part_old p = sym (count-keep p (λ e. sg (group e)) old) ∙ count_determined (keep (λ e. sg (group e)) old) (keep (λ e. sg (group e)) new) each p
    where
      inside_out : (e : Edge) (l : List Edge) → sg (group e) ≡ true → count (λ d. sg (group d) && same_edge e d) l ≡ count (same_edge e) l
      inside_out e l i = count_ext (λ d. sg (group d) && same_edge e d) (same_edge e) l (all l)
        where
          all : (k : List Edge) → All (λ d. (sg (group d) && same_edge e d) ≡ same_edge e d) k
          all [] = tt
          all (d ∷ k) = (sym (and_within (sg (group d)) (same_edge e d) (λ q. ap (λ (x : Edge). sg (group x)) (sym (same-edge e d q)) ∙ i)), all k)

      outside : (e : Edge) (l : List Edge) → sg (group e) ≡ false → count (λ d. sg (group d) && same_edge e d) l ≡ 0
      outside e l i = count_none (λ d. sg (group d) && same_edge e d) l (all l)
        where
          one : (d : Edge) (b : Bool) → same_edge e d ≡ b → (sg (group d) && b) ≡ false
          one d true q = rw (ap (λ (x : Edge). sg (group x)) (sym (same-edge e d q)) ∙ i)
          one d false q = and-false (sg (group d))

          all : (k : List Edge) → All (λ d. (sg (group d) && same_edge e d) ≡ false) k
          all [] = tt
          all (d ∷ k) = (one d (same_edge e d) refl, all k)

      each : (e : Edge) → count (same_edge e) (keep (λ d. sg (group d)) old) ≡ count (same_edge e) (keep (λ d. sg (group d)) new)
      each e = count-keep (same_edge e) (λ d. sg (group d)) old ∙ go (sg (group e)) refl ∙ sym (count-keep (same_edge e) (λ d. sg (group d)) new)
        where
          go : (b : Bool) → sg (group e) ≡ b → count (λ d. sg (group d) && same_edge e d) old ≡ count (λ d. sg (group d) && same_edge e d) new
          go true i = inside_out e old i ∙ untouched e i ∙ sym (inside_out e new i)
          go false i = outside e old i ∙ sym (outside e new i)

  pub untouched_cover : GroupsUnder n old → GroupsUnder n new → (g : ℕ) → touched old new g ≡ false → cover n old g ≡ cover n new g
  unfolding sg
  untouched_cover u v g i =
      let (co, cn) = all_append (λ e. sg (group e) ≡ sm (meta e)) old new closed in
      let under : GroupsUnder n (keep (λ e. sg (group e)) new) = all_keep _ (λ e. sg (group e)) new v in
      cover_local sg sm n old (keep (λ e. sg (group e)) new) part_old co u under g (ap not i)
      ∙ sym (cover_local sg sm n new (keep (λ e. sg (group e)) new) part-new cn v under g (ap not i))

  -- group by group: where the old mark was the cover's, the answer is the cover's
  pub update-cover : GroupsUnder n old → GroupsUnder n new → (marks : ℕ → Bool) (g : ℕ) → marks g ≡ cover n old g → update n old new marks g ≡ cover n new g
  unfolding update
  update-cover u v marks g e = go (touched old new g) refl
    where
      go : (b : Bool) → touched old new g ≡ b → cond b (cover n new g) (marks g) ≡ cover n new g
      go true i = refl
      go false i = e ∙ untouched_cover u v g i

-- of the lists: where the old marks are the cover of the old edges, the answer is the cover of the new ones
pub update_list_lem : (n : ℕ) (old new : List Edge) → GroupsUnder n old → GroupsUnder n new → update_list n old new (cover_list n old) ≡ cover_list n new
unfolding update_list cover_list
update_list_lem n old new u v =
    listed_ext n _ _ (λ g i. ap bit (update-cover n old new u v _ g
    (ap (λ (k : ℕ). eqb k 1) (get_or_listed n (λ h. bit (cover n old h)) g i) ∙ bit_is (cover n old g))))

-- a group in a touched part has the mark that the cover of the touched edges alone gives it
pub touched-cover : (n : ℕ) (old new : List Edge) → GroupsUnder n new → (g : ℕ) → touched old new g ≡ true
    → cover n new g ≡ cover n (keep (λ e. touched old new (group e)) new) g
touched-cover n old new v g i =
    cover_local (touched old new) (touched_meta old new) n new (keep (λ e. touched old new (group e)) new)
    (λ p. sym (count-keep p (λ e. touched old new (group e)) new))
    (all_append _ old new (touched_linked old new)).1 v (all_keep _ (λ e. touched old new (group e)) new v) g i
