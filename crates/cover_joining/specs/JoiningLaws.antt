-- Laws of nodes joined into parts. Assumes nothing.
use Rattle.std.specs.Prelude.{ℕ, ◌+◌, ◌*◌, ◌≤◌, ◌<◌, ◌≡◌, refl, Bool, cond, List, [], ◌∷◌, length, get_or, set, eqb}
use Rattle.std.proofs.Common.{add-one, arith, sym, ap, ◌∙◌, ⊎_elim, length-set, get_or-set_same, get_or-set_other, eq-eqb, ne_eqb}
use Rattle.cover_joining.specs.Joining.{Forest, Reps, Held, LowestFound, Joined, edge_links}
use Rattle.lists.specs.Tests.{same?}
use Rattle.lists.specs.Lists.{All}
use Rattle.lists.specs.FrameLaws.{Framed, framed_none, framed_then, framed_set}
use Rattle.lists.specs.KeepLaws.{all_map}
use Rattle.records.specs.Le.{number_at}
use Rattle.cover_spec.specs.Cover.{Edge}

-- ---- parts of one node each
module _ (w : List ℕ) (p n : ℕ) (own : (x : ℕ) → x < n → get_or w (p + x) 0 ≡ x) where
  pub alone_forest : p + n ≤ length w → Forest w p n
  alone_forest h = record { room = h; down = λ x l. omega (arith, own x l) }

  pub alone-held : Held [] w p n
  alone-held = record { rep = λ x. x; reps = record { along = own; top = λ x l e. refl }; joins = tt; only = λ f h x l. refl }

-- ---- a table that agrees in its places
module _ (w w' : List ℕ) (p n : ℕ) (same : (x : ℕ) → x < n → get_or w' (p + x) 0 ≡ get_or w (p + x) 0) where
  pub forest_same : length w' ≡ length w → Forest w p n → Forest w' p n
  forest_same e f = record { room = omega (arith, f.room); down = λ x l. omega (arith, same x l, f.down x l) }

  pub reps_same : (rep : ℕ → ℕ) → Reps rep w p n → Reps rep w' p n
  reps_same rep r = record { along = λ x l. ap rep (same x l) ∙ r.along x l; top = λ x l e. r.top x l (sym (same x l) ∙ e) }

  pub held_same : (links : List Edge) → Held links w p n → Held links w' p n
  held_same links h = record { rep = h.rep; reps = reps_same h.rep h.reps; joins = h.joins; only = h.only }

-- ---- one node names another that is not above it
module _ (w : List ℕ) (p n y v : ℕ) (f : Forest w p n) (l : y < n) (d : v ≤ y) where
  at_y : get_or (set w (p + y) v) (p + y) 0 ≡ v
  at_y = get_or-set_same w (p + y) v 0 (omega (arith, f.room))

  at_other : (x : ℕ) → (x ≡ y → ⊥) → get_or (set w (p + y) v) (p + x) 0 ≡ get_or w (p + x) 0
  at_other x u = get_or-set_other w (p + y) (p + x) v 0 (λ z. u (omega arith))

  pub set_forest : Forest (set w (p + y) v) p n
  set_forest = record {
    room = rw length-set f.room;
    down = λ x m. ⊎_elim (λ (e : x ≡ y). rw e (omega (arith, at_y))) (λ (u : x ≡ y → ⊥). omega (arith, at_other x u, f.down x m)) (same? x y);
  }

  pub set_rest : Framed p (p + n) w (set w (p + y) v)
  set_rest = framed_set p (p + n) (p + y) v w (omega arith) (omega arith)

  -- a node of the same part, below y
  pub set_reps : (rep : ℕ → ℕ) → rep v ≡ rep y → v < y → Reps rep w p n → Reps rep (set w (p + y) v) p n
  set_reps rep e b r = record {
    along = λ x m. ⊎_elim (λ (q : x ≡ y). rw q (ap rep at_y ∙ e)) (λ (u : x ≡ y → ⊥). ap rep (at_other x u) ∙ r.along x m) (same? x y);
    top = λ x m t. ⊎_elim (λ (q : x ≡ y). absurd (clash x q t)) (λ (u : x ≡ y → ⊥). r.top x m (sym (at_other x u) ∙ t)) (same? x y);
  }
    where
      clash : (x : ℕ) → x ≡ y → get_or (set w (p + y) v) (p + x) 0 ≡ x → ⊥
      clash x q t = let z : v ≡ x = sym at_y ∙ ap (λ (k : ℕ). get_or (set w (p + y) v) (p + k) 0) (sym q) ∙ t in omega arith

  -- the lowest node of another part, or y: the part of y goes there
  module _ (rep : ℕ → ℕ) (ty : rep y ≡ y) (tv : rep v ≡ v) where
    abbrev moved : ℕ → ℕ
    moved x = cond (eqb (rep x) y) v (rep x)

    moved_at : (x : ℕ) → rep x ≡ y → moved x ≡ v
    moved_at x e = rw (eq-eqb (rep x) y e)

    moved_off : (x : ℕ) → (rep x ≡ y → ⊥) → moved x ≡ rep x
    moved_off x u = rw (ne_eqb (rep x) y u)

    pub moved_same : (a b : ℕ) → rep a ≡ rep b → moved a ≡ moved b
    moved_same a b e = ap (λ (r : ℕ). cond (eqb r y) v r) e

    moved_v : moved v ≡ v
    moved_v = ⊎_elim (λ (e : rep v ≡ y). moved_at v e) (λ (u : rep v ≡ y → ⊥). moved_off v u ∙ tv) (same? (rep v) y)

    pub move_reps : Reps rep w p n → Reps moved (set w (p + y) v) p n
    move_reps r = record {
      along = λ x m. ⊎_elim (λ (q : x ≡ y). rw q (ap moved at_y ∙ moved_v ∙ sym (moved_at y ty))) (λ (u : x ≡ y → ⊥). ap moved (at_other x u) ∙ moved_same (get_or w (p + x) 0) x (r.along x m)) (same? x y);
      top = λ x m t. ⊎_elim (λ (q : x ≡ y). rw q (moved_at y ty ∙ here x q t)) (λ (u : x ≡ y → ⊥). there x u (r.top x m (sym (at_other x u) ∙ t))) (same? x y);
    }
      where
        here : (x : ℕ) → x ≡ y → get_or (set w (p + y) v) (p + x) 0 ≡ x → v ≡ y
        here x q t = sym at_y ∙ ap (λ (k : ℕ). get_or (set w (p + y) v) (p + k) 0) (sym q) ∙ t ∙ q

        there : (x : ℕ) → (x ≡ y → ⊥) → rep x ≡ x → moved x ≡ x
        there x u e = moved_off x (λ z. u (sym e ∙ z)) ∙ e

    -- a test that no part leaves, and that has one answer at y and v, no moved part leaves
    pub moved-test : (t : ℕ → Bool) → t y ≡ t v → (x : ℕ) → t x ≡ t (rep x) → t x ≡ t (moved x)
    moved-test t e x h =
        h ∙ ⊎_elim (λ (q : rep x ≡ y). ap t q ∙ e ∙ ap t (sym (moved_at x q))) (λ (u : rep x ≡ y → ⊥). ap t (sym (moved_off x u))) (same? (rep x) y)

    -- the ends a and b of a link, whose lowest nodes are y and v in either order
    pub move-held : (links : List Edge) → Reps rep w p n → All (λ l. rep l.0 ≡ rep l.1) links
        → ((t : ℕ → Bool) → All (λ l. t l.0 ≡ t l.1) links → (x : ℕ) → x < n → t x ≡ t (rep x)) → (a b : ℕ) → a < n → b < n → moved a ≡ moved b
        → ((t : ℕ → Bool) → t a ≡ t (rep a) → t b ≡ t (rep b) → t a ≡ t b → t y ≡ t v) → Held ((a, b) ∷ links) (set w (p + y) v) p n
    move-held links r j o a b la lb e g = record {
      rep = moved;
      reps = move_reps r;
      joins = (e, all_map (λ k q. moved_same k.0 k.1 q) links j);
      only = λ t c x m. moved-test t (g t (o t c.1 a la) (o t c.1 b lb) c.0) x (o t c.1 x m);
    }

-- ---- the way to the lowest node: y is on it, and names up
pub record Finding (w₀ w : List ℕ) (p n x y up : ℕ) : Type 0 where
  pub forest : Forest w p n
  pub inside : y < n
  pub names : up ≡ get_or w (p + y) 0
  pub reps : (rep : ℕ → ℕ) → Reps rep w₀ p n → Reps rep w p n × (rep y ≡ rep x)
  pub rest : Framed p (p + n) w₀ w

pub finding_start : (w : List ℕ) (p n x up : ℕ) → Forest w p n → x < n → up ≡ get_or w (p + x) 0 → Finding w w p n x x up
finding_start w p n x up f l e = record { forest = f; inside = l; names = e; reps = λ rep r. (r, refl); rest = framed_none p (p + n) w }

module _ (w₀ w : List ℕ) (p n x y up next : ℕ) (k : Finding w₀ w p n x y up) (b : up < y) (e : next ≡ get_or w (p + up) 0) where
  pub finding_less : next < y
  finding_less = omega (arith, k.forest.down up (omega (arith, k.inside)))

  pub finding_turn : (up' : ℕ) → up' ≡ get_or (set w (p + y) next) (p + next) 0 → Finding w₀ (set w (p + y) next) p n x next up'
  finding_turn up' u = record {
    forest = set_forest w p n y next k.forest k.inside (omega (arith, finding_less));
    inside = omega (arith, finding_less, k.inside);
    names = u;
    reps = λ rep r.
        let (q, s) = k.reps rep r in
        let t : rep next ≡ rep y = ap rep e ∙ q.along up (omega (arith, k.inside)) ∙ ap rep k.names ∙ q.along y k.inside in
        (set_reps w p n y next k.forest k.inside (omega (arith, finding_less)) rep t finding_less q, t ∙ s);
    rest = framed_then p (p + n) w₀ w (set w (p + y) next) k.rest (set_rest w p n y next k.forest k.inside (omega (arith, finding_less)));
  }

pub finding_end : (w₀ w : List ℕ) (p n x y up : ℕ) → Finding w₀ w p n x y up → y ≤ up → LowestFound w₀ w p n x y
finding_end w₀ w p n x y up k b =
    let t : get_or w (p + y) 0 ≡ y = omega (arith, k.names, k.forest.down y k.inside) in
    record {
      forest = k.forest;
      inside = k.inside;
      reps = λ rep r. let (q, s) = k.reps rep r in let z : rep y ≡ y = q.top y k.inside t in (q, sym z ∙ s, z);
      rest = k.rest;
    }

-- ---- two ways, and the lower of the lowest nodes named by the other
module _ (w w₁ w₂ : List ℕ) (p n x y a b : ℕ) (lx : x < n) (ly : y < n) (fa : LowestFound w w₁ p n x a) (fb : LowestFound w₁ w₂ p n y b) where
  pub joined-left : a < b → Joined (λ links. (x, y) ∷ links) w (set w₂ (p + b) a) p n
  joined-left l = record {
    forest = set_forest w₂ p n b a fb.forest fb.inside (omega arith);
    held = λ links h.
        let (r, s, t) = fa.reps h.rep h.reps in
        let (r', s', t') = fb.reps h.rep r in
        move-held w₂ p n b a fb.forest fb.inside (omega arith) h.rep t' t links r' h.joins h.only x y lx ly
        (same-moved h.rep t' t s s') (λ f ex ey e. ap f s' ∙ sym ey ∙ sym e ∙ ex ∙ ap f (sym s));
    rest = λ i o. set_rest w₂ p n b a fb.forest fb.inside (omega arith) i o ∙ fb.rest i o ∙ fa.rest i o;
  }
    where
      same-moved : (rep : ℕ → ℕ) → rep b ≡ b → rep a ≡ a → a ≡ rep x → b ≡ rep y → cond (eqb (rep x) b) a (rep x) ≡ cond (eqb (rep y) b) a (rep y)
      same-moved rep tb ta s s' = rw (← s, ← s', ne_eqb a b (λ z. omega arith), eq-eqb b b refl)

  pub joined_right : b ≤ a → Joined (λ links. (x, y) ∷ links) w (set w₂ (p + a) b) p n
  joined_right l = record {
    forest = set_forest w₂ p n a b fb.forest fa.inside l;
    held = λ links h.
        let (r, s, t) = fa.reps h.rep h.reps in
        let (r', s', t') = fb.reps h.rep r in
        move-held w₂ p n a b fb.forest fa.inside l h.rep t t' links r' h.joins h.only x y lx ly
        (same-moved h.rep s s') (λ f ex ey e. ap f s ∙ sym ex ∙ e ∙ ey ∙ ap f (sym s'));
    rest = λ i o. set_rest w₂ p n a b fb.forest fa.inside l i o ∙ fb.rest i o ∙ fa.rest i o;
  }
    where
      same-moved : (rep : ℕ → ℕ) → a ≡ rep x → b ≡ rep y → cond (eqb (rep x) a) b (rep x) ≡ cond (eqb (rep y) a) b (rep y)
      same-moved rep s s' = rw (← s, ← s', eq-eqb a a refl) (⊎_elim (λ (e : b ≡ a). rw (eq-eqb b a e)) (λ (u : b ≡ a → ⊥). rw (ne_eqb b a u)) (same? b a))

pub joined-none : (w : List ℕ) (p n : ℕ) → Forest w p n → Joined (λ links. links) w w p n
joined-none w p n f = record { forest = f; held = λ links h. h; rest = framed_none p (p + n) w }

pub joined_then : {f g : List Edge → List Edge} {u v w : List ℕ} {p n : ℕ} → Joined f u v p n → Joined g v w p n → Joined (λ links. g (f links)) u w p n
joined_then {f} a b = record { forest = b.forest; held = λ links h. b.held (f links) (a.held links h); rest = λ i o. b.rest i o ∙ a.rest i o }

pub edges-start : (groups : ℕ) (bs w : List ℕ) (p n : ℕ) → Forest w p n → Joined (edge_links groups bs 0) w w p n
unfolding edge_links
edges-start groups bs w p n f = joined-none w p n f

pub edges-turn : (groups : ℕ) (bs u v w : List ℕ) (p n i : ℕ) → Joined (edge_links groups bs i) u v p n
    → Joined (λ links. (1 + number_at 4 bs (8 * i), 1 + groups + number_at 4 bs (8 * i + 4)) ∷ links) v w p n → Joined (edge_links groups bs (i + 1)) u w p n
unfolding edge_links
edges-turn groups bs u v w p n i a b = rw add-one (joined_then a b)
