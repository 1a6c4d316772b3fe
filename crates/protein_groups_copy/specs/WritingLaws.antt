-- Records written one after the other. Assumes nothing.
use Rattle.std.specs.Prelude.{ℕ, suc, ◌+◌, ◌-◌, ◌/◌, ◌%◌, ◌≤◌, ◌<◌, ◌≡◌, refl, List, [], ◌∷◌, ◌++◌, map, length}
use Rattle.std.proofs.Common.{sym, ap, ◌∙◌, arith, add-one}
use Rattle.std.proofs.lemmas.List.Edits.{sets}
use Rattle.protein_groups_spec.specs.Rows.{member_of}
use Rattle.lists.specs.Lists.{up_from}
use Rattle.records.specs.Le.{le}
use Rattle.records.specs.LeLaws.{sets_append}
use Rattle.records.specs.Room.{fitted}
use Rattle.records.specs.RoomLaws.{Sized}
use Rattle.records.specs.StoreLaws.{stored, stored_from, stored-all, length-stored}
use Rattle.cover_edges.specs.Edges.{edge_bytes}
use Rattle.protein_groups_members.specs.Members.{member_bytes}

-- ---- a record's bytes, number by number

pub edge-stored : (out : List ℕ) (k g m : ℕ) → sets (sets out k (le 4 g)) (k + 4) (le 4 m) ≡ sets out k (edge_bytes (g, m))
unfolding edge_bytes
edge-stored out k g m = sym (sets_append (le 4 g) (le 4 m) out k)

-- a flag as four bytes
flag_bytes : (x : ℕ) → le 4 (x % 2) ≡ x % 2 ∷ 0 ∷ 0 ∷ 0 ∷ []
flag_bytes x =
    let a : x % 2 % 256 ≡ x % 2 = omega arith in
    let b : x % 2 / 256 ≡ 0 = omega arith in
    rw (a, b)

pub member-stored : (out : List ℕ) (k g x : ℕ) → sets (sets (sets out k (le 4 g)) (k + 4) (le 4 (x / 2))) (k + 8) (le 4 (x % 2)) ≡ sets out k (member_bytes (member_of g x))
unfolding member_bytes
member-stored out k g x =
    let z : k + 8 ≡ k + 4 + 4 = omega arith in
    ap (λ (t : List ℕ). sets (sets (sets out k (le 4 g)) (k + 4) (le 4 (x / 2))) (k + 8) t) (flag_bytes x)
    ∙ ap (λ (at : ℕ). sets (sets (sets out k (le 4 g)) (k + 4) (le 4 (x / 2))) at (x % 2 ∷ 0 ∷ 0 ∷ 0 ∷ [])) z
    ∙ sym (sets_append (le 4 g) (le 4 (x / 2) ++ (x % 2 ∷ 0 ∷ 0 ∷ 0 ∷ [])) out k ∙ sets_append (le 4 (x / 2)) (x % 2 ∷ 0 ∷ 0 ∷ 0 ∷ []) (sets out k (le 4 g)) (k + 4))

-- ---- turns of a writer: record i is made by f of what g gives at i

-- the first i of n are written
pub record WrittenTo {A : Type 0} (size limit : ℕ) (f : A → List ℕ) (g : ℕ → A) (n : ℕ) (old out : List ℕ) (i : ℕ) : Type 0 where
  pub few : i ≤ n
  pub same_length : length out ≡ length old
  pub coming : stored_from size limit out i (map f (map g (up_from i (n - i)))) ≡ stored_from size limit old 0 (map f (map g (up_from 0 n)))

module _ {A : Type 0} (size limit : ℕ) (f : A → List ℕ) (g : ℕ → A) (n : ℕ) (old : List ℕ) where
  pub writing_none : WrittenTo size limit f g n old old 0
  writing_none = record { few = omega arith; same_length = refl; coming = (let z : n - 0 ≡ n = omega arith in ap (λ (k : ℕ). stored_from size limit old 0 (map f (map g (up_from 0 k)))) z) }

  pub writing_more : (out : List ℕ) (i : ℕ) → i < n → WrittenTo size limit f g n old out i → WrittenTo size limit f g n old (stored size limit out i (f (g i))) (i + 1)
  writing_more out i h p = record {
    few = omega arith;
    same_length = length-stored size limit out i (f (g i)) ∙ p.same_length;
    coming =
        (let z : n - i ≡ suc (n - suc i) = omega arith in
        rw (add-one i) (ap (λ (k : ℕ). stored_from size limit out i (map f (map g (up_from i k)))) (sym z)) ∙ p.coming);
  }

  pub writing_end : (out : List ℕ) (i : ℕ) → Sized size (map f (map g (up_from 0 n))) → n ≤ i → WrittenTo size limit f g n old out i → out ≡ fitted size limit old (map f (map g (up_from 0 n)))
  writing_end out i sized h p =
      let z : n - i ≡ 0 = omega arith in
      sym (ap (λ (k : ℕ). stored_from size limit out i (map f (map g (up_from i k)))) z) ∙ p.coming ∙ stored-all size limit old (map f (map g (up_from 0 n))) sized
