-- Runs of stores, one after another. Assumes nothing.
use Rattle.std.specs.Prelude.{ℕ, ◌+◌, ◌≤◌, ◌<◌, ◌≡◌, refl, List, [], ◌∷◌, ◌++◌, length, get_or, take, drop, set}
use Rattle.std.proofs.Common.{sym, ap, ◌∙◌, subst, arith, add-zero, add-one, length-append, take_at, take-suc, take_all}
use Rattle.records.specs.LeLaws.{sets_append}
use Rattle.std.proofs.lemmas.List.Edits.{sets, sets-eq}
use Rattle.std.proofs.Math.Seq.{length-sets}

-- vs was stored in old from a place on, which gives new, and the next place is at
pub record Wrote (old : List ℕ) (from : ℕ) (vs new : List ℕ) (at : ℕ) : Type 0 where
  pub is : new ≡ sets old from vs
  pub next : at ≡ from + length vs

pub wrote_none : (old : List ℕ) (from : ℕ) → Wrote old from [] old from
wrote_none old from = record { is = refl; next = sym (add-zero from) }

pub wrote_one : (old : List ℕ) (from v : ℕ) → Wrote old from (v ∷ []) (set old from v) (from + 1)
wrote_one old from v = record { is = refl; next = refl }

-- one run after another
pub wrote_then : (old : List ℕ) (from : ℕ) (vs new : List ℕ) (at : ℕ) (ws newer : List ℕ) (next : ℕ) → Wrote old from vs new at → Wrote new at ws newer next → Wrote old from (vs ++ ws) newer next
wrote_then old from vs new at ws newer next p q =
    record {
      is = q.is ∙ rw (p.is, p.next) (sym (sets_append vs ws old from));
      next = omega (arith, p.next, q.next, length-append vs ws);
    }

pub wrote_length : (old : List ℕ) (from : ℕ) (vs new : List ℕ) (at : ℕ) → Wrote old from vs new at → length new ≡ length old
wrote_length old from vs new at p = ap length p.is ∙ length-sets old from vs

-- what was stored from the front on is read back
pub wrote_taken : (old vs new : List ℕ) (at : ℕ) → length vs ≤ length old → Wrote old 0 vs new at → take at new ≡ vs
wrote_taken old vs new at h p =
    let e : at ≡ length vs = p.next ∙ (let z : 0 + length vs ≡ length vs = omega arith in z) in
    rw (p.is, e) (ap (take (length vs)) (sets-eq vs old 0 (omega arith)) ∙ take_at vs (drop (0 + length vs) old) (length vs) refl)

-- ---- a list copied place by place

pub copy_into-more : (old : List ℕ) (from : ℕ) (xs new : List ℕ) (j : ℕ) → j < length xs → Wrote old from (take j xs) new (from + j) → Wrote old from (take (j + 1) xs) (set new (from + j) (get_or xs j 0)) (from + (j + 1))
copy_into-more old from xs new j h w =
    let e : take (j + 1) xs ≡ take j xs ++ (get_or xs j 0 ∷ []) = ap (λ (z : ℕ). take z xs) (add-one j) ∙ take-suc xs j 0 h in
    let g : from + (j + 1) ≡ from + j + 1 = omega arith in
    rw (e, g) (wrote_then old from (take j xs) new (from + j) (get_or xs j 0 ∷ []) (set new (from + j) (get_or xs j 0)) (from + j + 1) w (wrote_one new (from + j) (get_or xs j 0)))

pub copy_into-none : (old : List ℕ) (from : ℕ) (xs : List ℕ) → Wrote old from (take 0 xs) old (from + 0)
copy_into-none old from xs = subst (Wrote old from [] old) (sym (add-zero from)) (wrote_none old from)

pub copy_into-all : (old : List ℕ) (from : ℕ) (xs new : List ℕ) (j : ℕ) → length xs ≤ j → Wrote old from (take j xs) new (from + j) → new ≡ sets old from xs
copy_into-all old from xs new j h w = w.is ∙ ap (sets old from) (take_all j xs h)
