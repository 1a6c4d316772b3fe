-- Document 01, "Groups and cover": the cover. Edges are a list of pairs (group, meta-peptide), in which repeats count.
use Rattle.std.specs.Prelude.{Bool, false, not, ◌&&◌, ◌||◌, cond, List, [], ◌∷◌, ℕ, zero, suc, leb, ltb, eqb, length}
use Rattle.lists.specs.Lists.{bit, count, some, keep}

abbrev pub Edge : Type 0
Edge = ℕ × ℕ

abbrev pub group : Edge → ℕ
group e = e.0

abbrev pub meta : Edge → ℕ
meta e = e.1

abbrev pub same_edge : Edge → Edge → Bool
same_edge d e = eqb (group d) (group e) && eqb (meta d) (meta e)

-- how many edges a group has, and a meta-peptide
abbrev pub of_group : ℕ → List Edge → ℕ
of_group g l = count (λ e. eqb (group e) g) l

abbrev pub of_meta : ℕ → List Edge → ℕ
of_meta m l = count (λ e. eqb (meta e) m) l

-- where a run stands: the remaining edges, the marked groups, the covered meta-peptides
pub record State : Type 0 where
  pub edges : List Edge
  pub marked : ℕ → Bool
  pub covered : ℕ → Bool

-- "One trim pass: mark each group holding the only remaining edge of some meta-peptide; remove edges of marked groups, covering
-- their meta-peptides; remove edges of covered meta-peptides."
abbrev pub forced : List Edge → ℕ → Bool
forced l g = some (λ e. eqb (group e) g && eqb (of_meta (meta e) l) 1) l

unfoldable pub mark_forced : State → ℕ → Bool
mark_forced s g = s.marked g || forced s.edges g

unfoldable pub cover_marked : State → ℕ → Bool
cover_marked s m = s.covered m || some (λ e. eqb (meta e) m && mark_forced s (group e)) s.edges

unfoldable pub stays : State → Edge → Bool
stays s e = not (mark_forced s (group e)) && not (cover_marked s (meta e))

unfoldable pub pass : State → State
pass s = record { edges = keep (stays s) s.edges; marked = mark_forced s; covered = cover_marked s }

-- "Passes repeat until one removes nothing." At most as many remove something as there are edges.
unfoldable pub trim_passes : ℕ → State → State
trim_passes zero s = s
trim_passes (suc k) s =
    let t : State = pass s in
    let rest : State = trim_passes k t in
    cond (eqb (length t.edges) (length s.edges)) t rest

abbrev pub trim : State → State
trim s = trim_passes (length s.edges) s

-- "Choose marks the group with the greatest (remaining edges, original edges), at equality the highest number." The group a has
-- less than b, or as much:
abbrev pub not_above : (ℕ → ℕ) → (ℕ → ℕ) → ℕ → ℕ → Bool
not_above remaining original a b =
    ltb (remaining a) (remaining b) || eqb (remaining a) (remaining b) && leb (original a) (original b)

-- the greatest of the groups below n
unfoldable pub greatest : (ℕ → ℕ) → (ℕ → ℕ) → ℕ → ℕ
greatest remaining original zero = zero
greatest remaining original (suc n) =
    let best : ℕ = greatest remaining original n in
    cond (not_above remaining original best n) n best

-- of the groups below n the one to choose, where of all edges those of l remain
abbrev pub choice : List Edge → List Edge → ℕ → ℕ
choice all l n = greatest (λ g. of_group g l) (λ g. of_group g all) n

unfoldable pub mark : ℕ → State → State
mark g s = record { edges = s.edges; marked = λ h. eqb h g || s.marked h; covered = s.covered }

abbrev pub no_edges : State → Bool
no_edges s = eqb (length s.edges) 0

unfoldable pub choose : List Edge → ℕ → State → State
choose all n s = mark (choice all s.edges n) s

-- "While edges remain, trim, then, if edges remain, choose." There is at most one turn more than there are edges.
unfoldable pub turn : List Edge → ℕ → State → State
turn all n s = let t : State = trim s in let u : State = choose all n t in cond (no_edges t) t u

unfoldable pub turns : List Edge → ℕ → ℕ → State → State
turns all n zero s = s
turns all n (suc k) s = let rest : State = turns all n k (turn all n s) in cond (no_edges s) s rest

abbrev pub start : List Edge → State
start all = record { edges = all; marked = λ g. false; covered = λ m. false }

-- whether the cover of n groups marks group g
unfoldable pub cover : ℕ → List Edge → ℕ → Bool
cover n all = (turns all n (suc (length all)) (start all)).marked

-- for each of the groups below n its number
unfoldable pub listed : ℕ → (ℕ → ℕ) → List ℕ
listed zero f = []
listed (suc n) f = f 0 ∷ listed n (λ g. f (suc g))

-- a mark for each group: 1 or 0
unfoldable pub cover_list : ℕ → List Edge → List ℕ
cover_list n all = listed n (λ g. bit (cover n all g))
