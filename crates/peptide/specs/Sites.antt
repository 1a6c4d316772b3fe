-- Document 01: "Sites: variable rules in order, each rule's sites ascending." Of choices of sites those are skipped "that use
-- a slot twice or a rule more often than its own limit". The slots of a form are 0, the N-terminal one, 1, the C-terminal
-- one, and 2 + k, that of residue k.
use Rattle.std.specs.Prelude.{ℕ, zero, suc, ◌+◌, ◌/◌, Bool, true, ◌&&◌, length, get_or, leb, eqb}
use mathlib.Core.List.{List, [], ◌∷◌, map, flatten}
use Rattle.lists.specs.Lists.{count, up_from, keep}
use Rattle.letters.specs.Letters.{capitals}
use Rattle.modification_rules.specs.declared.rule.Rule.{Rule}
use Rattle.modification_kinds.specs.Specificities.{kind_of, letter_of}
use Rattle.modification_rules.specs.Rules.{rule_at}
use Rattle.peptide_slots.specs.Hits.{at_first, at_last, hits_at, fill_at}
use Rattle.peptide.specs.declared.making.Peptide.{Peptide}

-- a rule, by its place in its list, and a slot that it hits
pub record Site : Type 0 where
  pub rule : ℕ
  pub slot : ℕ

abbrev pub rule_site : ℕ → ℕ → Site
rule_site rule slot = record { rule = rule; slot = slot }

-- a rule of a kind without a letter hits the slot of an end, one with a letter those of residues, whose letters read as capitals
abbrev pub hits : Peptide → ℕ → ℕ → ℕ → Bool
hits p kind letter zero = eqb letter 0 && at_first kind p.position
hits p kind letter (suc zero) = eqb letter 0 && at_last kind p.position
hits p kind letter (suc (suc k)) = hits_at kind p.position letter p.len k (get_or (capitals p.letters) k 0)

-- the slots that a rule hits, ascending
abbrev pub slots_of : Peptide → Rule → List ℕ
slots_of p rule = keep (hits p (kind_of rule.on) (letter_of rule.on)) (up_from 0 (p.len + 2))

-- rules in order, each rule's sites ascending
unfoldable pub rule_sites : Peptide → List ℕ → List Site
unfolding flatten
rule_sites p rules = flatten (map (λ (r : ℕ). map (rule_site r) (slots_of p (rule_at rules r))) (up_from 0 (length rules / 8)))

-- ---- some of the sites

-- each of them passes a test
abbrev pub each : (Site → Bool) → List Site → Bool
each test [] = true
each test (s ∷ ss) = test s && each test ss

-- no slot is used twice, and no rule more often than its own limit
unfoldable pub passes : List ℕ → List Site → Bool
passes rules sites =
    each (λ (s : Site). leb (count (λ (t : Site). eqb t.slot s.slot) sites) 1
    && leb (count (λ (t : Site). eqb t.rule s.rule) sites) (rule_at rules s.rule).limit) sites

-- one site after another: its slot takes its rule's id, unless it is filled
unfoldable pub filled : List ℕ → List ℕ → List Site → List ℕ
filled rules form [] = form
filled rules form (s ∷ ss) = filled rules (fill_at form s.slot (rule_at rules s.rule).id) ss
