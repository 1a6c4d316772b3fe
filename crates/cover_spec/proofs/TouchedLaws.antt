-- Touched, as the document says it: connected, in the join of both lists, to an edge that differs. Assumes nothing.
use Rattle.std.specs.Prelude.{Bool, ◌&&◌, List, ◌++◌, ℕ, ◌≡◌}
use Rattle.std.proofs.Math.Bool.{true}
use Rattle.std.proofs.Math.Dec.{eqb}
use Rattle.std.proofs.Math.Path.{refl}
use Rattle.std.proofs.Common.{sym, ap, ◌∙◌, eqb-true, ltb-true, eq-eqb}
use Rattle.lists.specs.Tests.{both, iff}
use Rattle.lists.specs.Lists.{count, some, All}
use Rattle.lists.specs.KeepLaws.{all_map}
use Rattle.cover_spec.specs.Cover.{Edge, group, meta}
use Rattle.cover_spec.specs.Update.{part_of, differs, touched}
use Rattle.cover_spec.specs.CountLaws.{all-at, find}
use Rattle.cover_spec.proofs.ConnectedLaws.{◌∈◌, Connected, here, across, chain, edges_in, member-some, part_linked, part-has}

-- the connected part of g is touched: some edge of it stands a different number of times in the two lists
abbrev pub Touched : List Edge → List Edge → ℕ → Type 0
Touched old new g = (e : Edge) × (e ∈ (old ++ new)) × (differs old new e ≡ true) × Connected (old ++ new) g (group e)

-- the meta-peptide has an edge in a touched part
unfoldable pub touched_meta : List Edge → List Edge → ℕ → Bool
touched_meta old new m = some (λ e. eqb (meta e) m && touched old new (group e)) (old ++ new)

module _ (old new : List Edge) where
  abbrev J : List Edge
  J = old ++ new

  pub touched-to : (g : ℕ) → touched old new g ≡ true → Touched old new g
  unfolding touched
  touched-to g i =
      let (e, j, z) = find (differs old new) (part_of J g) (ltb-true 0 (count (differs old new) (part_of J g)) i) in
      let (x, c) = all-at (λ d. (d ∈ J) × Connected J g (group d)) e (part_of J g) (part_linked J g) z in (e, x, j, c)

  pub touched_of : (g : ℕ) → Touched old new g → touched old new g ≡ true
  unfolding touched
  touched_of g (e, x, y, c) = member-some (differs old new) e (part_of J g) (part-has J g c e x refl) y

  touched-along : (g h : ℕ) → Connected J g h → touched old new h ≡ true → touched old new g ≡ true
  touched-along g h c i = let (e, x, y, b) = touched-to h i in touched_of g (e, x, y, chain c b)

  -- no edge leaves what is touched
  pub touched_linked : All (λ e. touched old new (group e) ≡ touched_meta old new (meta e)) J
  unfolding touched_meta
  touched_linked = all_map (λ e i. iff (touched old new (group e)) (touched_meta old new (meta e)) (to e i) (of e i)) J (edges_in J)
    where
      to : (e : Edge) → e ∈ J → touched old new (group e) ≡ true → touched_meta old new (meta e) ≡ true
      to e i t = member-some (λ d. eqb (meta d) (meta e) && touched old new (group d)) e J i (rw (eq-eqb (meta e) (meta e) refl, t))

      of : (e : Edge) → e ∈ J → touched_meta old new (meta e) ≡ true → touched old new (group e) ≡ true
      of e i t =
          let p : Edge → Bool = λ d. eqb (meta d) (meta e) && touched old new (group d) in
          let (d, j, z) = find p J (ltb-true 0 (count p J) t) in
          let (q, s) = both (eqb (meta d) (meta e)) (touched old new (group d)) j in
          touched-along (group e) (group d) (across e d here i z (sym (eqb-true (meta d) (meta e) q))) s

  -- Any marks on groups and meta-peptides that no edge leaves, that hold the groups of all edges that differ, and no group that is not touched, are the touched groups.
  pub flags_touched : (tg tm : ℕ → Bool) → All (λ e. tg (group e) ≡ tm (meta e)) J → All (λ e. differs old new e ≡ true → tg (group e) ≡ true) J
      → ((g : ℕ) → tg g ≡ true → Touched old new g) → (g : ℕ) → tg g ≡ touched old new g
  flags_touched tg tm c d f g = iff (tg g) (touched old new g) (λ i. touched_of g (f g i)) (λ i. from (touched-to g i))
    where
      along : {h k : ℕ} → Connected J h k → tg h ≡ tg k
      along here = refl
      along (across a b w x y q) =
          along w ∙ all-at (λ e. tg (group e) ≡ tm (meta e)) a J c x ∙ ap tm q ∙ sym (all-at (λ e. tg (group e) ≡ tm (meta e)) b J c y)

      from : Touched old new g → tg g ≡ true
      from (e, x, y, w) = along w ∙ all-at (λ a. differs old new a ≡ true → tg (group a) ≡ true) e J d x y
