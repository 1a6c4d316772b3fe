-- Which choices pass, each site one number as in peptide_slots' Sites: how the code says it. A choice is the list of its
-- places in the list of sites. The public statement does not cite this.
use Rattle.std.specs.Prelude.{ℕ, ◌+◌, Bool, true, not, ◌&&◌, List, [], ◌∷◌, get_or, leb, eqb}
use Rattle.lists.specs.Lists.{bit}
use Rattle.peptide_slots.specs.Sites.{slot_of, rule_of, limit_at}

abbrev pub site_slot : List ℕ → ℕ → ℕ
site_slot sites k = slot_of (get_or sites k 0)

abbrev pub site_rule : List ℕ → ℕ → ℕ
site_rule sites k = rule_of (get_or sites k 0)

-- none of the places has the slot
unfoldable pub free : List ℕ → ℕ → List ℕ → Bool
free sites slot [] = true
free sites slot (k ∷ ks) = not (eqb (site_slot sites k) slot) && free sites slot ks

-- how many of the places are the rule's
unfoldable pub uses : List ℕ → ℕ → List ℕ → ℕ
uses sites rule [] = 0
uses sites rule (k ∷ ks) = bit (eqb (site_rule sites k) rule) + uses sites rule ks

-- no slot is used twice
unfoldable pub slots_once : List ℕ → List ℕ → Bool
unfolding free
slots_once sites [] = true
slots_once sites (k ∷ ks) = free sites (site_slot sites k) ks && slots_once sites ks

-- of the places ks of a choice, each is of a rule that the choice uses no more often than its limit
unfoldable pub in_limits : List ℕ → List ℕ → List ℕ → List ℕ → Bool
unfolding uses
in_limits sites rules choice [] = true
in_limits sites rules choice (k ∷ ks) = leb (uses sites (site_rule sites k) choice) (limit_at rules (site_rule sites k)) && in_limits sites rules choice ks

-- a choice passes unless it uses a slot twice or a rule more often than its own limit
unfoldable pub packed_passes : List ℕ → List ℕ → List ℕ → Bool
unfolding slots_once in_limits
packed_passes sites rules c = slots_once sites c && in_limits sites rules c c
