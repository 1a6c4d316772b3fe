-- Laws of lists of edges: what holds of all of them, how many pass a test, which are kept. Assumes nothing.
use Rattle.std.specs.Prelude.{Bool, true, false, cond, List, [], ◌∷◌, ◌+◌, ◌<◌, eqb, ◌≡◌, refl}
use Rattle.std.proofs.Common.{sym, ap, subst, arith, eqb-true, eq-eqb}
use Rattle.lists.specs.Tests.{both}
use Rattle.lists.specs.Lists.{bit, count, All}
use Rattle.cover_spec.specs.Cover.{Edge, group, meta, same_edge}

pub same-edge : (d e : Edge) → same_edge d e ≡ true → d ≡ e
same-edge d e h =
    let u = both (eqb (group d) (group e)) (eqb (meta d) (meta e)) h in
    λ i. (eqb-true (group d) (group e) u.0 i, eqb-true (meta d) (meta e) u.1 i)

pub edge_same : (e : Edge) → same_edge e e ≡ true
edge_same e = rw (eq-eqb (group e) (group e) refl, eq-eqb (meta e) (meta e) refl)

del : Edge → List Edge → List Edge
del a [] = []
del a (b ∷ l) = cond (same_edge a b) l (b ∷ del a l)

del_count : (p : Edge → Bool) (a : Edge) (l : List Edge) → 0 < count (same_edge a) l → count p l ≡ bit (p a) + count p (del a l)
unfolding del
del_count p a [] h = absurd (omega arith)
del_count p a (b ∷ l) h = go (same_edge a b) refl h (del_count p a l)
  where
    go : (c : Bool) → same_edge a b ≡ c → 0 < bit c + count (same_edge a) l → (0 < count (same_edge a) l → count p l ≡ bit (p a) + count p (del a l))
        → bit (p b) + count p l ≡ bit (p a) + count p (cond c l (b ∷ del a l))
    go true i h r = ap (λ (e : Edge). bit (p e) + count p l) (sym (same-edge a b i))
    go false i h r = omega (arith, r (omega arith))

pub count_determined : (A B : List Edge) → ((e : Edge) → count (same_edge e) A ≡ count (same_edge e) B) → (p : Edge → Bool) → count p A ≡ count p B
count_determined [] [] h p = refl
count_determined [] (b ∷ B) h p = absurd (omega (arith, h b, ap bit (edge_same b)))
count_determined (a ∷ A) B h p =
    let z : 0 < count (same_edge a) B = omega (arith, h a, ap bit (edge_same a)) in
    let r : count p A ≡ count p (del a B) = count_determined A (del a B) (λ e. omega (arith, h e, del_count (same_edge e) a B z)) p in
    omega (arith, del_count p a B z)

-- what holds of all edges of a list holds of an edge that stands in it
pub all-at : (P : Edge → Type 0) (e : Edge) (l : List Edge) → All P l → 0 < count (same_edge e) l → P e
all-at P e [] h z = absurd (omega arith)
all-at P e (d ∷ l) h z = go (same_edge e d) refl z (all-at P e l h.1)
  where
    go : (c : Bool) → same_edge e d ≡ c → 0 < bit c + count (same_edge e) l → (0 < count (same_edge e) l → P e) → P e
    go true i z r = subst P (sym (same-edge e d i)) h.0
    go false i z r = r (omega arith)

pub find : (p : Edge → Bool) (l : List Edge) → 0 < count p l → (e : Edge) × (p e ≡ true) × (0 < count (same_edge e) l)
find p [] h = absurd (omega arith)
find p (d ∷ l) h = go (p d) refl h (find p l)
  where
    go : (b : Bool) → p d ≡ b → 0 < bit b + count p l → (0 < count p l → (e : Edge) × (p e ≡ true) × (0 < count (same_edge e) l))
        → (e : Edge) × (p e ≡ true) × (0 < bit (same_edge e d) + count (same_edge e) l)
    go true i h r = (d, i, omega (arith, ap bit (edge_same d)))
    go false i h r = let (e, j, k) = r (omega arith) in (e, j, omega arith)
