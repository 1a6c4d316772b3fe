-- Lists with a number for each group. Assumes nothing.
use Rattle.std.specs.Prelude.{Bool, true, false, List, ℕ, zero, suc, ◌<◌, eqb, length, get_or, ◌≡◌, refl}
use Rattle.std.proofs.Common.{sym, ap, ◌∙◌, arith, ext_get_or}
use Rattle.lists.specs.Lists.{bit}
use Rattle.cover_spec.specs.Cover.{Edge, cover, listed, cover_list}

pub length-listed : (n : ℕ) (f : ℕ → ℕ) → length (listed n f) ≡ n
unfolding listed
length-listed zero f = refl
length-listed (suc n) f = ap suc (length-listed n (λ g. f (suc g)))

pub get_or_listed : (n : ℕ) (f : ℕ → ℕ) (g : ℕ) → g < n → get_or (listed n f) g 0 ≡ f g
unfolding listed
get_or_listed zero f g h = absurd (omega arith)
get_or_listed (suc n) f zero h = refl
get_or_listed (suc n) f (suc g) h = get_or_listed n (λ k. f (suc k)) g (omega arith)

pub listed_ext : (n : ℕ) (f h : ℕ → ℕ) → ((g : ℕ) → g < n → f g ≡ h g) → listed n f ≡ listed n h
unfolding listed
listed_ext zero f h e = refl
listed_ext (suc n) f h e = rw (e 0 (omega arith), listed_ext n (λ g. f (suc g)) (λ g. h (suc g)) (λ g i. e (suc g) (omega arith)))

pub bit_is : (b : Bool) → eqb (bit b) 1 ≡ b
bit_is true = refl
bit_is false = refl

pub listed_is : (n : ℕ) (f : ℕ → ℕ) (out : List ℕ) → length out ≡ n → ((g : ℕ) → g < n → get_or out g 0 ≡ f g) → out ≡ listed n f
listed_is n f out e h = ext_get_or 0 out (listed n f) (e ∙ sym (length-listed n f)) (λ g i. h g (omega arith) ∙ sym (get_or_listed n f g (omega arith)))

pub length-cover : (n : ℕ) (es : List Edge) → length (cover_list n es) ≡ n
unfolding cover_list
length-cover n es = length-listed n (λ g. bit (cover n es g))
