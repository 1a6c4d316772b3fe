-- Laws of parts of lists. Assumes nothing.
use Rattle.std.specs.Prelude.{◌≡◌, List, [], ◌∷◌, ◌++◌, map, ℕ, suc, ◌+◌, ◌-◌, ◌≤◌, ◌<◌, set, length, get_or, take, drop}
use Rattle.std.proofs.Common.{sym, ap, ◌∙◌, add-sub_of_le, arith, length-drop, take-append-drop, take-suc, take-suc-set, get_or-take, get_or-drop, ext_get_or, take-take, length-take-le, take_all}
use Rattle.std.proofs.lemmas.List.{length-map, drop-append-le}
use Rattle.std.proofs.Math.Seq.{slice, length-slice}
use Rattle.lists.specs.InLaws.{get_or_mapped}

-- an element in a part
pub at_slice : (f t : ℕ) (l : List ℕ) (i : ℕ) → f + i < t → get_or (slice f t l) i 0 ≡ get_or l (f + i) 0
at_slice f t l i h = get_or-drop f (take t l) i 0 ∙ get_or-take t l (f + i) 0 h

-- what fronts, tails and parts that are equal say of an element
pub at_take : (n : ℕ) (x y : List ℕ) → take n x ≡ take n y → (i : ℕ) → i < n → get_or x i 0 ≡ get_or y i 0
at_take n x y e i h = sym (get_or-take n x i 0 h) ∙ ap (λ (l : List ℕ). get_or l i 0) e ∙ get_or-take n y i 0 h

pub at_drop : (n : ℕ) (x y : List ℕ) → drop n x ≡ drop n y → (i : ℕ) → n ≤ i → get_or x i 0 ≡ get_or y i 0
at_drop n x y e i h =
    let q : n + (i - n) ≡ i = add-sub_of_le h in
    ap (λ (k : ℕ). get_or x k 0) (sym q) ∙ sym (get_or-drop n x (i - n) 0) ∙ ap (λ (l : List ℕ). get_or l (i - n) 0) e ∙ get_or-drop n y (i - n) 0 ∙ ap (λ (k : ℕ). get_or y k 0) q

-- a part is the map of another whose elements it maps
pub slice_mapped : (g : ℕ → ℕ) (f t : ℕ) (x y : List ℕ) → t ≤ length x → t ≤ length y → ((i : ℕ) → f ≤ i → i < t → get_or x i 0 ≡ g (get_or y i 0)) → slice f t x ≡ map g (slice f t y)
slice_mapped g f t x y hx hy q =
    ext_get_or 0 (slice f t x) (map g (slice f t y)) (length-slice f t x hx ∙ sym (length-slice f t y hy) ∙ sym (length-map (slice f t y) g))
    (λ i h.
    let k : f + i < t = omega (arith, length-slice f t x hx) in
    at_slice f t x i k ∙ q (f + i) (omega arith) k ∙ ap g (sym (at_slice f t y i k)) ∙ sym (get_or_mapped g (slice f t y) i (omega (arith, length-slice f t y hy))))

-- and back: parts and tails are equal whose elements are
pub slice-same : (f t : ℕ) (x y : List ℕ) → t ≤ length x → t ≤ length y → ((i : ℕ) → f ≤ i → i < t → get_or x i 0 ≡ get_or y i 0) → slice f t x ≡ slice f t y
slice-same f t x y hx hy g =
    ext_get_or 0 (slice f t x) (slice f t y) (length-slice f t x hx ∙ sym (length-slice f t y hy))
    (λ i h. let k : f + i < t = omega (arith, length-slice f t x hx) in at_slice f t x i k ∙ g (f + i) (omega arith) k ∙ sym (at_slice f t y i k))

pub drop-same : (n : ℕ) (x y : List ℕ) → length x ≡ length y → ((i : ℕ) → n ≤ i → get_or x i 0 ≡ get_or y i 0) → drop n x ≡ drop n y
drop-same n x y e g =
    ext_get_or 0 (drop n x) (drop n y) (length-drop n x ∙ ap (λ (k : ℕ). k - n) e ∙ sym (length-drop n y))
    (λ i h. get_or-drop n x i 0 ∙ g (n + i) (omega arith) ∙ sym (get_or-drop n y i 0))

-- two parts that meet
pub slice-join : (f m t : ℕ) (l : List ℕ) → f ≤ m → m ≤ t → t ≤ length l → slice f m l ++ slice m t l ≡ slice f t l
slice-join f m t l h k n =
    sym (
    ap (drop f) (sym (take-append-drop m (take t l)) ∙ ap (λ (p : List ℕ). p ++ slice m t l) (take-take m t l k))
    ∙ drop-append-le f (take m l) (slice m t l) (omega (arith, length-take-le m l (omega arith)))
    )

-- one element more in a part, as it stands and after a store
pub slice_snoc : (f t : ℕ) (l : List ℕ) → f ≤ t → t < length l → slice f (suc t) l ≡ slice f t l ++ (get_or l t 0 ∷ [])
slice_snoc f t l h k =
    ap (drop f) (take-suc l t 0 k) ∙ drop-append-le f (take t l) (get_or l t 0 ∷ []) (omega (arith, length-take-le t l (omega arith)))

pub slice_set : (f t v : ℕ) (l : List ℕ) → f ≤ t → t < length l → slice f (suc t) (set l t v) ≡ slice f t l ++ (v ∷ [])
slice_set f t v l h k =
    ap (drop f) (take-suc-set l t v k) ∙ drop-append-le f (take t l) (v ∷ []) (omega (arith, length-take-le t l (omega arith)))

-- the part from a place on
pub rest_all : (e : ℕ) (l : List ℕ) → take (length l - e) (drop e l) ≡ drop e l
rest_all e l = take_all (length l - e) (drop e l) (omega (arith, length-drop e l))
