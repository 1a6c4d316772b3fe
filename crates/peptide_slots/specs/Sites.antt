-- Sites as the code has them, each one number: 128 x the place of its rule + its slot. The slots of a form are 0, the
-- N-terminal one, 1, the C-terminal one, and 2 + k, that of residue k. The public statement does not cite this.
use Rattle.std.specs.Prelude.{ℕ, zero, suc, ◌+◌, ◌*◌, ◌/◌, ◌%◌, Bool, cond, ◌&&◌, List, [], ◌∷◌, ◌++◌, length, get_or, eqb}
use Rattle.records.specs.Le.{number_at}
use Rattle.peptide_slots.specs.Hits.{at_first, at_last, hits_at}

-- ---- the fields of rule r in a list of records

abbrev pub kind_at : List ℕ → ℕ → ℕ
kind_at rules r = get_or rules (r * 8) 0

abbrev pub letter_at : List ℕ → ℕ → ℕ
letter_at rules r = get_or rules (r * 8 + 1) 0

abbrev pub id_at : List ℕ → ℕ → ℕ
id_at rules r = get_or rules (r * 8 + 2) 0

abbrev pub limit_at : List ℕ → ℕ → ℕ
limit_at rules r = number_at 4 rules (r * 8 + 4)

-- ---- sites

abbrev pub slot_of : ℕ → ℕ
slot_of site = site % 128

abbrev pub rule_of : ℕ → ℕ
rule_of site = site / 128

-- v, where it is hit
unfoldable pub if_hit : Bool → ℕ → List ℕ
if_hit hit v = cond hit (v ∷ []) []

-- base + (k + 2) for each of the c places k from j on that is hit
unfoldable pub hit_from : (ℕ → Bool) → ℕ → ℕ → ℕ → List ℕ
unfolding if_hit
hit_from hit base j zero = []
hit_from hit base j (suc c) = if_hit (hit j) (base + (j + 2)) ++ hit_from hit base (suc j) c

-- the residues that a rule hits
unfoldable pub places_of : List ℕ → ℕ → ℕ → ℕ → ℕ → ℕ → List ℕ
unfolding hit_from
places_of letters n kind pos letter base = hit_from (λ (k : ℕ). hits_at kind pos letter n k (get_or letters k 0)) base 0 n

-- the sites of one rule: a terminal slot where it has no letter, else residues
unfoldable pub slot_numbers : List ℕ → ℕ → ℕ → ℕ → ℕ → ℕ → List ℕ
unfolding places_of
slot_numbers letters n kind pos letter base =
    if_hit (eqb letter 0 && at_first kind pos) base
    ++ (if_hit (eqb letter 0 && at_last kind pos) (base + 1) ++ places_of letters n kind pos letter base)

-- the sites of the k rules from rule r on
unfoldable pub sites_from : List ℕ → ℕ → ℕ → List ℕ → ℕ → ℕ → List ℕ
unfolding slot_numbers
sites_from letters n pos rules r zero = []
sites_from letters n pos rules r (suc k) = slot_numbers letters n (kind_at rules r) pos (letter_at rules r) (r * 128) ++ sites_from letters n pos rules (suc r) k

-- the sites of all rules on the first n letters
unfoldable pub all_sites : List ℕ → ℕ → ℕ → List ℕ → List ℕ
unfolding sites_from
all_sites letters n pos rules = sites_from letters n pos rules 0 (length rules / 8)
