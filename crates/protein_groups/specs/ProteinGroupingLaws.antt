-- What the answer of a grouping is. Assumes nothing.
use Rattle.std.specs.Prelude.{ℕ, zero, suc, ◌/◌, min, ◌≡◌, refl, true, cond, ◌&&◌, length, replicate, leb, Ok, Err}
use Rattle.std.proofs.Common.{sym, ap, ◌∙◌, arith, le-leb}
use mathlib.Core.List.{List, [], ◌∷◌, flatten, map}
use Rattle.std.proofs.lemmas.List.{length-map}
use Rattle.std.proofs.Math.Seq.{take-nil}
use Rattle.lists.specs.Lists.{up_from, keep}
use Rattle.records.specs.declared.refusal.Refusal.TheVariants.{Room}
use Rattle.records.specs.Outcome.{outcome}
use Rattle.records.specs.Room.{room_of, fitted}
use Rattle.records.specs.RoomLaws.{written_none}
use Rattle.cover_spec.specs.Cover.{Edge}
use Rattle.cover_edges.specs.Edges.{edge_bytes}
use Rattle.protein_groups_members.specs.Members.{Member, member_bytes}
use Rattle.protein_groups_spec.specs.ProteinGroups.{Groups, shown, paired, proteins, metas, groups_of, grouping}
use Rattle.protein_groups.specs.ProteinGrouping.{Grouped, proteins_grouped}

-- ---- the answer

module _ (g : Groups) (work edges members : List ℕ) where
  pub left-listed : (es : List Edge) (ms : List Member) (groups metas e m : ℕ) (r : Grouped) → es ≡ g.edges → ms ≡ g.members → groups ≡ g.groups → metas ≡ g.metas
      → length es ≡ e → length ms ≡ m
      → r ≡ cond (leb e (min (length edges / 8) 1048576) && leb m (min (length members / 12) 131072)) (Ok (record { groups = groups; metas = metas; edges = e; members = m })) (Err Room)
      → outcome r (replicate (length work) 0 ∷ fitted 8 1048576 edges (map edge_bytes es) ∷ fitted 12 131072 members (map member_bytes ms) ∷ []) ≡ proteins_grouped g work edges members
  left-listed es ms groups metas e m r p q s t u v a =
      let x : length (map edge_bytes g.edges) ≡ e = length-map g.edges edge_bytes ∙ sym (ap length p) ∙ u in
      let y : length (map member_bytes g.members) ≡ m = length-map g.members member_bytes ∙ sym (ap length q) ∙ v in
      let z : length g.edges ≡ e = sym (ap length p) ∙ u in
      let w : length g.members ≡ m = sym (ap length q) ∙ v in
      rw (a, p, q, s, t, x, y, z, w)

-- ---- no pairs

none-shown : (flags : List ℕ) (a n : ℕ) → flatten (map (shown flags []) (up_from a n)) ≡ []
unfolding flatten
none-shown flags a zero = refl
none-shown flags a (suc n) = none-shown flags (suc a) n

none-take : (a n : ℕ) → keep (paired []) (up_from a n) ≡ []
none-take a zero = refl
none-take a (suc n) = none-take (suc a) n

-- no pair, no group
pub none_grouped : (flags : List ℕ) (peptides : ℕ) → grouping flags peptides [] ≡ record { edges = []; members = []; groups = 0; metas = 0 }
unfolding grouping proteins metas groups_of flatten
none_grouped flags peptides = rw (none-shown flags 0 peptides, none-take 0 peptides)

pub none-listed : (flags : List ℕ) (peptides : ℕ) (work edges members : List ℕ)
    → outcome (Ok (record { groups = 0; metas = 0; edges = 0; members = 0 })) (replicate (length work) 0 ∷ edges ∷ members ∷ []) ≡ proteins_grouped (grouping flags peptides []) work edges members
none-listed flags peptides work edges members =
    let x : leb 0 (room_of 8 1048576 edges) ≡ true = le-leb 0 (room_of 8 1048576 edges) (omega arith) in
    let y : leb 0 (room_of 12 131072 members) ≡ true = le-leb 0 (room_of 12 131072 members) (omega arith) in
    rw (none_grouped flags peptides, take-nil {A = List ℕ} (room_of 8 1048576 edges), take-nil {A = List ℕ} (room_of 12 131072 members), written_none edges, written_none members, x, y)
