-- What each step of a level leaves: sites in a row, the runs of one text among them, and what is written for them.
use Rattle.std.specs.Prelude.{ℕ, ◌+◌, ◌≤◌, ◌<◌, ◌≡◌, Bool, true, not, ◌&&◌, ◌||◌, List, ltb, eqb, length, get_or}
use Rattle.lists.specs.FrameLaws.{Framed}
use Rattle.enzyme_keys.specs.Keys.{SiteWithin}

-- x is one of the first g
abbrev pub AmongFirst : List ℕ → ℕ → ℕ → Type 0
AmongFirst w g x = ((p : ℕ) × (p < g) × (get_or w p 0 ≡ x))

-- the first g are different
abbrev pub FirstDiffer : List ℕ → ℕ → Type 0
FirstDiffer w g = (i j : ℕ) → i < j → j < g → get_or w i 0 ≡ get_or w j 0 → ⊥

-- the first g are sites, and so are all below them
abbrev pub Sited : List ℕ → List ℕ → List ℕ → ℕ → Type 0
Sited s starts order g = (z v : ℕ) → AmongFirst order g z → v ≤ z → SiteWithin s starts v

-- sites of one text stand together, and rise
pub record StandTogether (text : ℕ → List ℕ) (w : List ℕ) (g : ℕ) : Type 0 where
  pub between : (i j l : ℕ) → i < j → j < l → l < g → text (get_or w i 0) ≡ text (get_or w l 0) → text (get_or w i 0) ≡ text (get_or w j 0)
  pub rises : (i j : ℕ) → i < j → j < g → text (get_or w i 0) ≡ text (get_or w j 0) → get_or w i 0 < get_or w j 0

-- the first g of y put into x so
pub record Arranged (text : ℕ → List ℕ) (y x : List ℕ) (g : ℕ) : Type 0 where
  pub into : (z : ℕ) → AmongFirst y g z → AmongFirst x g z
  pub from : (z : ℕ) → AmongFirst x g z → AmongFirst y g z
  pub apart : FirstDiffer x g
  pub lined : StandTogether text x g

-- for each of the first g the place at which its run starts
pub record RunStarts (text : ℕ → List ℕ) (w r : List ℕ) (g : ℕ) : Type 0 where
  pub start : 0 < g → get_or r 0 0 ≡ 0
  pub same : (p q : ℕ) → q ≡ p + 1 → q < g → text (get_or w p 0) ≡ text (get_or w q 0) → get_or r q 0 ≡ get_or r p 0
  pub differ : (p q : ℕ) → q ≡ p + 1 → q < g → (text (get_or w p 0) ≡ text (get_or w q 0) → ⊥) → get_or r q 0 ≡ q

-- x is y with f p written for the p-th of the first g of w
pub record WrittenFor (f : ℕ → ℕ) (w y x : List ℕ) (g : ℕ) : Type 0 where
  pub long : length x ≡ length y
  pub at : (p : ℕ) → p < g → get_or x (get_or w p 0) 0 ≡ f p
  pub rest : (z : ℕ) → (AmongFirst w g z → ⊥) → get_or x z 0 ≡ get_or y z 0

-- what is written is where the run starts
abbrev pub Brought : List ℕ → List ℕ → List ℕ → List ℕ → ℕ → Type 0
Brought w r = WrittenFor (λ p. get_or r p 0) w

-- it is the first of the run
abbrev pub Called : List ℕ → List ℕ → List ℕ → List ℕ → ℕ → Type 0
Called w r = WrittenFor (λ p. get_or w (get_or r p 0) 0) w

-- x is y with n written for those of the first g of w that are not the first of their run
pub record RepeatsMarked (w r y x : List ℕ) (n g : ℕ) : Type 0 where
  pub long : length x ≡ length y
  pub later : (p : ℕ) → p < g → (get_or r p 0 ≡ p → ⊥) → get_or x (get_or w p 0) 0 ≡ n
  pub first : (p : ℕ) → p < g → get_or r p 0 ≡ p → get_or x (get_or w p 0) 0 ≡ get_or y (get_or w p 0) 0
  pub rest : (z : ℕ) → (AmongFirst w g z → ⊥) → get_or x z 0 ≡ get_or y z 0

-- the first g of y are put in order into x, r says where their runs start, and ranks and shared sites are written by the runs
pub record RunsRanked (text : ℕ → List ℕ) (y x r rank rank' share share' : List ℕ) (g n : ℕ) : Type 0 where
  pub arranged : Arranged text y x g
  pub runs : RunStarts text x r g
  pub brought : Brought x r rank rank' g
  pub marked : RepeatsMarked x r share share' n g

-- the first g of y have a site of their text as their name, all of one text the same one; the others keep their name
pub record OneName (text : ℕ → List ℕ) (y name name' : List ℕ) (g : ℕ) : Type 0 where
  pub like : (z : ℕ) → AmongFirst y g z → text (get_or name' z 0) ≡ text z
  pub same : (z v : ℕ) → AmongFirst y g z → AmongFirst y g v → text z ≡ text v → get_or name' z 0 ≡ get_or name' v 0
  pub rest : (z : ℕ) → (AmongFirst y g z → ⊥) → get_or name' z 0 ≡ get_or name z 0

-- whether the p-th is in a run of two or more
abbrev pub in_run : List ℕ → ℕ → ℕ → Bool
in_run r g p = not (eqb (get_or r p 0) p) || (ltb (p + 1) g && not (eqb (get_or r (p + 1) 0) (p + 1)))

-- whether the p-th goes on: it is in such a run, and there is a site n places on
abbrev pub goes_on : List ℕ → List ℕ → ℕ → ℕ → ℕ → ℕ → Bool
goes_on w r g m n p = in_run r g p && ltb (get_or w p 0 + n) m

-- the first k of x are those of the first i of y that stay
pub record Kept (stay : ℕ → Bool) (y x : List ℕ) (i k : ℕ) : Type 0 where
  pub long : length x ≡ length y
  pub few : k ≤ i
  pub from : (q : ℕ) → q < k → ((p : ℕ) × (p < i) × (stay p ≡ true) × (get_or x q 0 ≡ get_or y p 0))
  pub each : (p : ℕ) → p < i → stay p ≡ true → AmongFirst x k (get_or y p 0)
  pub apart : FirstDiffer x k
  pub rest : Framed 0 i y x
