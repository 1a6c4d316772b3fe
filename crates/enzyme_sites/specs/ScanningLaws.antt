-- A turn of the scan. Assumes nothing.
use Rattle.std.specs.Prelude.{ℕ, suc, ◌+◌, ◌-◌, ◌≤◌, ◌<◌, ◌≡◌, refl, true, false, ◌⊎◌, List, [], ◌∷◌, ◌++◌, length, get_or, set, drop}
use Rattle.std.proofs.Common.{sym, ap, ◌∙◌, inl, inr, arith, add-zero, add-one, length-append, length-drop, drop_of_length-le, drop-cons, drop-drop, get_or-drop, get_or-set_same, get_or-set_other}
use Rattle.lists.specs.InLaws.{no_places}
use Rattle.lists.specs.Tests.{below?}
use Rattle.enzyme_cuts.specs.declared.kinds.Knife.{Knife}
use Rattle.enzyme_windows.specs.Pieces.{between, on_first, pieces}
use Rattle.enzyme_windows.specs.StartLaws.{piece_start, start-next}
use Rattle.enzyme_sites.specs.Starts.{Starts}
use Rattle.enzyme_sites.specs.Scanning.{ends_site, glue, Scanned}

glue-one : (p : List ℕ) (b : ℕ) (ts : List (List ℕ)) → glue p ((b ∷ []) ∷ ts) ≡ (p ++ (b ∷ [])) ∷ ts
glue-one [] b ts = refl
glue-one (a ∷ p) b ts = ap (on_first a) (glue-one p b ts)

glue-on : (p : List ℕ) (b : ℕ) (ts : List (List ℕ)) → glue p (on_first b ts) ≡ glue (p ++ (b ∷ [])) ts
glue-on [] b ts = refl
glue-on (a ∷ p) b ts = ap (on_first a) (glue-on p b ts)

ends_cut : (k : Knife) (b : ℕ) (s : List ℕ) → ends_site k (b ∷ s) ≡ true → pieces k (b ∷ s) ≡ (b ∷ []) ∷ pieces k s
ends_cut k b [] e = refl
ends_cut k b (c ∷ s) e = rw e

ends_on : (k : Knife) (b : ℕ) (s : List ℕ) → ends_site k (b ∷ s) ≡ false → pieces k (b ∷ s) ≡ on_first b (pieces k s)
ends_on k b [] e = refl
ends_on k b (c ∷ s) e = rw e

module _ (k : Knife) (s : List ℕ) where
  pub scanned_none : (x : List ℕ) → 1 ≤ length x → Scanned k s (set x 0 0) 0 0
  scanned_none x h = record {
    inside = omega arith;
    few = omega arith;
    behind = omega arith;
    ended = λ h. refl;
    known = omega arith;
    at = λ i l. let e : i ≡ 0 = omega arith in rw e (get_or-set_same x 0 0 0 h);
    rest = ([], omega arith, refl);
  }

  pub scanned_end : (x : List ℕ) (m j : ℕ) → length s ≤ j → length s < length x → Scanned k s x m j → Starts k s x m
  scanned_end x m j h n c = record { count = e; room = omega (arith, c.few, c.inside); at = c.at }
    where
      e : m ≡ length (pieces k s)
      e =
          let r = c.rest in
          let z : r.0 ≡ [] = no_places r.0 (omega (arith, r.1, c.ended h)) in
          let d : drop j s ≡ [] = drop_of_length-le s {i = j} h in
          let q : drop m (pieces k s) ≡ [] = r.2 ∙ rw (z, d) in
          let l : length (pieces k s) - m ≡ 0 = sym (length-drop m (pieces k s)) ∙ ap length q in
          omega (arith, c.known)

  pub scanned_on : (x : List ℕ) (m j : ℕ) → j < length s → ends_site k (drop j s) ≡ false → Scanned k s x m j → Scanned k s x m (j + 1)
  scanned_on x m j h e c =
      let r = c.rest in
      let d : drop j s ≡ get_or s j 0 ∷ drop (suc j) s = drop-cons s j 0 h in
      let f : ends_site k (get_or s j 0 ∷ drop (suc j) s) ≡ false = rw d at e in
      let q : drop m (pieces k s) ≡ glue (r.0 ++ (get_or s j 0 ∷ [])) (pieces k (drop (suc j) s)) = r.2 ∙ rw (d, ends_on k (get_or s j 0) (drop (suc j) s) f) (glue-on r.0 (get_or s j 0) (pieces k (drop (suc j) s))) in
      let o : suc j < length s = later (drop (suc j) s) refl f in
      record {
        inside = omega arith;
        few = omega (arith, c.few);
        behind = omega (arith, c.behind);
        ended = λ z. absurd (omega arith);
        known = c.known;
        at = c.at;
        rest = (r.0 ++ (get_or s j 0 ∷ []), omega (arith, length-append r.0 (get_or s j 0 ∷ []), r.1, c.behind), rw (add-one j) q);
      }
    where
      later : (l : List ℕ) → drop (suc j) s ≡ l → ends_site k (get_or s j 0 ∷ l) ≡ false → suc j < length s
      later [] q f = let z : ◌≡◌ {A = ℕ} 0 1 = cc in absurd (omega arith)
      later (a ∷ l) q f = let z : length s - suc j ≡ suc (length l) = sym (length-drop (suc j) s) ∙ ap length q in omega arith

  -- the site that ends
  module _ (x : List ℕ) (m j : ℕ) (h : j < length s) (e : ends_site k (drop j s) ≡ true) (c : Scanned k s x m j) where
    cut-rest : drop m (pieces k s) ≡ (c.rest.0 ++ (get_or s j 0 ∷ [])) ∷ pieces k (drop (suc j) s)
    cut-rest =
        let d : drop j s ≡ get_or s j 0 ∷ drop (suc j) s = drop-cons s j 0 h in
        let f : ends_site k (get_or s j 0 ∷ drop (suc j) s) ≡ true = rw d at e in
        c.rest.2 ∙ rw (d, ends_cut k (get_or s j 0) (drop (suc j) s) f) (glue-one c.rest.0 (get_or s j 0) (pieces k (drop (suc j) s)))

    cut-some : m < length (pieces k s)
    cut-some = let z : length (pieces k s) - m ≡ suc (length (pieces k (drop (suc j) s))) = sym (length-drop m (pieces k s)) ∙ ap length cut-rest in omega arith

    cut-size : length (get_or (pieces k s) m []) ≡ j + 1 - piece_start (pieces k s) m
    cut-size =
        let a : get_or (pieces k s) m [] ≡ c.rest.0 ++ (get_or s j 0 ∷ []) = ap (λ (q : ℕ). get_or (pieces k s) q []) (sym (add-zero m)) ∙ sym (get_or-drop m (pieces k s) 0 []) ∙ ap (λ (l : List (List ℕ)). get_or l 0 []) cut-rest in
        ap length a ∙ length-append c.rest.0 (get_or s j 0 ∷ []) ∙ omega (arith, c.rest.1, c.behind)

    cut_later : drop (suc m) (pieces k s) ≡ pieces k (drop (suc j) s)
    cut_later = ap (λ (q : ℕ). drop q (pieces k s)) (sym (add-one m)) ∙ sym (drop-drop 1 m (pieces k s)) ∙ ap (drop 1) cut-rest

    cut-next : piece_start (pieces k s) (m + 1) ≡ j + 1
    cut-next = rw (add-one m) (start-next (pieces k s) m cut-some ∙ omega (arith, cut-size, c.behind))

    pub scanned_cut : m + 1 < length x → Scanned k s (set x (m + 1) (j + 1)) (m + 1) (j + 1)
    scanned_cut n = record {
      inside = omega arith;
      few = omega (arith, c.few);
      behind = omega (arith, cut-next);
      ended = λ q. cut-next;
      known = omega (arith, cut-some);
      at = λ i l. more i (below? i (m + 1)) l;
      rest = ([], omega (arith, cut-next), rw (add-one m, add-one j) cut_later);
    }
      where
        more : (i : ℕ) → (i < m + 1) ⊎ (m + 1 ≤ i) → i ≤ m + 1 → get_or (set x (m + 1) (j + 1)) i 0 ≡ piece_start (pieces k s) i
        more i (inl a) l = get_or-set_other x (m + 1) i (j + 1) 0 (λ (e : i ≡ m + 1). omega arith) ∙ c.at i (omega arith)
        more i (inr a) l = let e : i ≡ m + 1 = omega arith in rw e (get_or-set_same x (m + 1) (j + 1) 0 n ∙ sym cut-next)

-- the end of a site, told by one letter and the next
pub ends_inner : (k : Knife) (s : List ℕ) (j : ℕ) → j + 1 < length s → between k (get_or s j 0) (get_or s (j + 1) 0) ≡ ends_site k (drop j s)
ends_inner k s j h = rw (add-one j, drop-cons s j 0 (omega arith), drop-cons s (suc j) 0 (omega arith))

pub ends_last : (k : Knife) (s : List ℕ) (j : ℕ) → j < length s → length s ≤ j + 1 → true ≡ ends_site k (drop j s)
ends_last k s j h n = rw (drop-cons s j 0 h, drop_of_length-le s {i = suc j} (omega arith))
