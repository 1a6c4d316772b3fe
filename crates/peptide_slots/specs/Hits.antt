-- Document 01: "Rules hit as in `push_resi`: `^M` hits residue 0, while `^` hits the terminal slot; protein rules need Nterm
-- or Full, Cterm or Full. A filled slot is never overwritten." Kinds: 0 residue, 1 `^`, 2 `$`, 3 `[`, 4 `]`. Positions:
-- 0 Nterm, 1 Cterm, 2 Full, 3 Internal. A rule's letter is 0 for none.
use Rattle.std.specs.Prelude.{ℕ, ◌+◌, Bool, cond, not, ◌&&◌, ◌||◌, List, get_or, set, eqb}

-- a rule of the first place: `^`, and `[` where the peptide starts its protein
abbrev pub at_first : ℕ → ℕ → Bool
at_first kind pos = eqb kind 1 || (eqb kind 3 && (eqb pos 0 || eqb pos 2))

-- a rule of the last place: `$`, and `]` where the peptide ends its protein
abbrev pub at_last : ℕ → ℕ → Bool
at_last kind pos = eqb kind 2 || (eqb kind 4 && (eqb pos 1 || eqb pos 2))

-- a rule with a letter hits the residue x at place k of n: with kind 0 wherever it stands, else at the first or last place
abbrev pub hits_at : ℕ → ℕ → ℕ → ℕ → ℕ → ℕ → Bool
hits_at kind pos letter n k x = not (eqb letter 0) && (eqb x letter && (eqb kind 0 || ((at_first kind pos && eqb k 0) || (at_last kind pos && eqb (k + 1) n))))

-- an empty slot takes the id, a filled one is never overwritten
abbrev pub fill : ℕ → ℕ → ℕ
fill id old = cond (eqb old 0) id old

abbrev pub fill_at : List ℕ → ℕ → ℕ → List ℕ
fill_at form slot id = set form slot (fill id (get_or form slot 0))
