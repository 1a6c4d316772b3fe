-- Laws of little-endian numbers, over the width. Assumes nothing.
use Rattle.std.specs.Prelude.{ℕ, zero, suc, ◌+◌, ◌*◌, ◌/◌, ◌%◌, ◌^◌, ◌≤◌, ◌<◌, ◌≡◌, refl, List, [], ◌∷◌, ◌++◌, ◌⊎◌, length, take, drop, get_or, set}
use Rattle.std.proofs.Common.{sym, ap, ◌∙◌, append_assoc, inl, inr, ⊎_elim, arith, pow-suc, add-zero, drop_of_length-le, drop-cons, take_at, drop_at, length-take-le, get_or-set_other}
use Rattle.std.proofs.Math.ListN.{get_or-eq_default}
use Rattle.std.proofs.lemmas.List.Edits.{sets, sets-eq}
use Rattle.std.proofs.Math.Seq.{set_out, take-nil}
use Rattle.lists.specs.Tests.{below?}
use Rattle.records.specs.Le.{le, value, number_at}

pub length-le : (w n : ℕ) → length (le w n) ≡ w
length-le zero n = refl
length-le (suc w) n = ap suc (length-le w (n / 256))

-- a number that fits the width is what its bytes stand for
pub value-le : (w n : ℕ) → n < 256 ^ w → value (le w n) ≡ n
value-le zero n h = omega arith
value-le (suc w) n h =
    let h' : n < 256 ^ w * 256 = rw pow-suc at h in
    let q : n / 256 < 256 ^ w = omega arith in
    rw (value-le w (n / 256) q) (omega arith)

-- a list of bytes
abbrev pub Bytes : List ℕ → Type 0
Bytes s = (i : ℕ) → get_or s i 0 < 256

tail_bytes : (b : ℕ) (bs : List ℕ) → Bytes (b ∷ bs) → Bytes bs
tail_bytes b bs h i = h (suc i)

-- bytes are those of the number that they stand for
pub le-value : (bs : List ℕ) → Bytes bs → le (length bs) (value bs) ≡ bs
le-value [] h = refl
le-value (b ∷ bs) h =
    let k : b < 256 = h 0 in
    let p : (b + 256 * value bs) % 256 ≡ b = omega arith in
    let q : (b + 256 * value bs) / 256 ≡ value bs = omega arith in
    rw (p, q, le-value bs (tail_bytes b bs h))

pub value_lt : (bs : List ℕ) → Bytes bs → value bs < 256 ^ length bs
value_lt [] h = omega arith
value_lt (b ∷ bs) h =
    let k : b < 256 = h 0 in
    let r : value bs < 256 ^ length bs = value_lt bs (tail_bytes b bs h) in
    rw pow-suc (omega arith)

-- ---- a number at a place

pub number-none : (s : List ℕ) (at : ℕ) → number_at 0 s at ≡ 0
unfolding number_at
number-none s at = refl

-- one byte more, in range or not
pub number-next : (w : ℕ) (s : List ℕ) (at : ℕ) → number_at (suc w) s at ≡ get_or s at 0 + 256 * number_at w s (suc at)
unfolding number_at
number-next w s at = ⊎_elim (inside) (outside) (below? at (length s))
  where
    inside : at < length s → value (take (suc w) (drop at s)) ≡ get_or s at 0 + 256 * value (take w (drop (suc at) s))
    inside h = rw (drop-cons s at 0 h)

    outside : length s ≤ at → value (take (suc w) (drop at s)) ≡ get_or s at 0 + 256 * value (take w (drop (suc at) s))
    outside h =
        let k : length s ≤ suc at = omega arith in
        rw (drop_of_length-le s h, drop_of_length-le s k, get_or-eq_default s 0 h, take-nil {A = ℕ} w)

pub number_lt : (w : ℕ) (s : List ℕ) (at : ℕ) → Bytes s → number_at w s at < 256 ^ w
number_lt zero s at h = rw (number-none s at) (omega arith)
number_lt (suc w) s at h =
    let k : get_or s at 0 < 256 = h at in
    let r : number_at w s (suc at) < 256 ^ w = number_lt w s (suc at) h in
    rw (number-next w s at, pow-suc) (omega arith)

-- past the end all is 0
pub number_past : (w : ℕ) (s : List ℕ) (at : ℕ) → length s ≤ at → number_at w s at ≡ 0
unfolding number_at
number_past w s at h = rw (drop_of_length-le s h, take-nil {A = ℕ} w)

-- at a width of four bytes
pub number-four : (s : List ℕ) (at : ℕ) → number_at 4 s at ≡ get_or s at 0 + 256 * (get_or s (at + 1) 0 + 256 * (get_or s (at + 2) 0 + 256 * get_or s (at + 3) 0))
number-four s at =
    let e₁ : at + 1 ≡ suc at = omega arith in
    let e₂ : at + 2 ≡ suc (suc at) = omega arith in
    let e₃ : at + 3 ≡ suc (suc (suc at)) = omega arith in
    let last : number_at 1 s (suc (suc (suc at))) ≡ get_or s (suc (suc (suc at))) 0 = number-next 0 s (suc (suc (suc at))) ∙ rw (number-none s (suc (suc (suc (suc at))))) (omega arith) in
    rw (e₁, e₂, e₃, number-next 3 s at, number-next 2 s (suc at), number-next 1 s (suc (suc at)), last)

-- ---- stores

-- a store past the end changes nothing
pub sets_out : {A : Type 0} (vs s : List A) (at : ℕ) → length s ≤ at → sets s at vs ≡ s
sets_out [] s at h = refl
sets_out (v ∷ vs) s at h =
    let e : set s at v ≡ s = set_out s at v h in
    let k : length s ≤ suc at = omega arith in
    rw e (sets_out vs s (suc at) k)

-- a run of stores after another
pub sets_append : {A : Type 0} (us vs s : List A) (at : ℕ) → sets s at (us ++ vs) ≡ sets (sets s at us) (at + length us) vs
sets_append [] vs s at = rw (add-zero at)
sets_append (u ∷ us) vs s at =
    let e : at + suc (length us) ≡ suc at + length us = omega arith in
    rw e (sets_append us vs (set s at u) (suc at))

-- what was stored is read back
pub number-stored : (w n : ℕ) (s : List ℕ) (at : ℕ) → at + w ≤ length s → n < 256 ^ w → number_at w (sets s at (le w n)) at ≡ n
unfolding number_at
number-stored w n s at h k =
    let l : length (le w n) ≡ w = length-le w n in
    let t : length (take at s) ≡ at = length-take-le at s (omega arith) in
    let e : sets s at (le w n) ≡ take at s ++ (le w n ++ drop (at + length (le w n)) s) = sets-eq (le w n) s at (omega arith) ∙ append_assoc (take at s) (le w n) (drop (at + length (le w n)) s) in
    rw (e, drop_at (take at s) (le w n ++ drop (at + length (le w n)) s) at t, take_at (le w n) (drop (at + length (le w n)) s) w l) (value-le w n k)

-- a place that no store reaches
abbrev pub Apart : ℕ → ℕ → ℕ → ℕ → Type 0
Apart j w at n = (j + w ≤ at) ⊎ (at + n ≤ j)

pub get_or-sets_other : (vs s : List ℕ) (at j : ℕ) → Apart j 1 at (length vs) → get_or (sets s at vs) j 0 ≡ get_or s j 0
get_or-sets_other [] s at j h = refl
get_or-sets_other (v ∷ vs) s at j h =
    get_or-sets_other vs (set s at v) (suc at) j (⊎_elim (λ (x : j + 1 ≤ at). inl (omega arith)) (λ (x : at + suc (length vs) ≤ j). inr (omega arith)) h)
    ∙ get_or-set_other s at j v 0 (λ (e : j ≡ at). ⊎_elim (λ (x : j + 1 ≤ at). omega arith) (λ (x : at + suc (length vs) ≤ j). omega arith) h)

-- what lies elsewhere is read as before
pub number_apart : (w : ℕ) (vs s : List ℕ) (at j : ℕ) → Apart j w at (length vs) → number_at w (sets s at vs) j ≡ number_at w s j
number_apart zero vs s at j h = number-none (sets s at vs) j ∙ sym (number-none s j)
number_apart (suc w) vs s at j h =
    let p : get_or (sets s at vs) j 0 ≡ get_or s j 0 = get_or-sets_other vs s at j (⊎_elim (λ (x : j + suc w ≤ at). inl (omega arith)) (λ (x : at + length vs ≤ j). inr (omega arith)) h) in
    let q : number_at w (sets s at vs) (suc j) ≡ number_at w s (suc j) = number_apart w vs s at (suc j) (⊎_elim (λ (x : j + suc w ≤ at). inl (omega arith)) (λ (x : at + length vs ≤ j). inr (omega arith)) h) in
    number-next w (sets s at vs) j ∙ rw (p, q) (sym (number-next w s j))
