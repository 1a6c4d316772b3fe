-- The code goes by sites that are one number each (peptide_slots, peptide_forms): they make the same forms. Assumes nothing.
use Rattle.std.specs.Prelude.{ℕ, zero, suc, ◌+◌, ◌*◌, ◌/◌, ◌≤◌, ◌<◌, ◌≡◌, refl, Bool, true, false, cond, not, ◌&&◌, ◌||◌, length, get_or, leb, eqb}
use Rattle.std.proofs.Common.{sym, ap, ap₂, ◌∙◌, arith, zero-add, leb-true, le-leb, ltb-false, eqb-true, eq-eqb, ne_eqb}
use mathlib.Core.List.{List, [], ◌∷◌, ◌++◌, map, map-append, flatten}
use Rattle.std.proofs.lemmas.List.{length-map}
use Rattle.std.proofs.Math.ListN.{get_or-map}
use Rattle.std.proofs.lemmas.Bool.{lt-leb, eqb-false, not-false, not-true}
use Rattle.peptide_listing.specs.FormTests.{tested_lists}
use Rattle.letters.specs.Letters.{capitals}
use Rattle.lists.specs.InLaws.{keep-alike, map-alike}
use Rattle.lists.specs.Tests.{both}
use Rattle.lists.specs.Lists.{up_from, keep, bit, count}
use Rattle.records.specs.Le.{number_at}
use Rattle.records.specs.SearchLaws.{seek_before}
use Rattle.records.specs.Tested.{field_tested}
use Rattle.records.specs.TestedLaws.{passed-both, passed-field}
use Rattle.modification_kinds.specs.declared.specificity.Specificity.TheVariants.{Residue, PeptideN, PeptideC, ProteinN, ProteinC}
use Rattle.modification_kinds.specs.Specificities.{kind_of, letter_of, specificity, sound}
use Rattle.modification_rules.specs.Rules.{good_rule, no_rule, no_limit, rule_at, first_bad_rule}
use Rattle.peptide_choices.specs.Choices.{by_size}
use Rattle.peptide_slots.specs.Sites.{kind_at, letter_at, limit_at, slot_of, rule_of, if_hit, hit_from, places_of, slot_numbers, sites_from, all_sites}
use Rattle.peptide_slots.specs.SiteLaws.{slot_back, rule_back}
use Rattle.peptide_slots.specs.Filling.{fill_site, apply}
use Rattle.peptide_forms.specs.Passing.{packed_passes}
use Rattle.peptide_forms.specs.PassingLaws.{swap}
use Rattle.peptide_forms.specs.Enumeration.{up_to_cap}
use Rattle.peptide_forms.specs.Packed.{packed_choices, packed_chosen, packed_form}
use Rattle.peptide_forms.specs.UsedLaws.{free_in, uses_in, once_in, limits_in, fine, passes-chosen}
use Rattle.peptide.specs.declared.making.Peptide.{Peptide}
use Rattle.peptide.specs.Sites.{Site, rule_site, hits, slots_of, rule_sites, each, passes, filled}
use Rattle.peptide.specs.Forms.{bare, chosen, choices, form_of, forms_of}
use Rattle.records.specs.Answers.{Passed}

-- ---- the forms by numbers

abbrev pub packed_sites : Peptide → List ℕ → List ℕ
packed_sites p rules = all_sites (capitals p.letters) p.len p.position rules

unfoldable pub packed_forms : Peptide → List ℕ → List ℕ → ℕ → ℕ → List (List ℕ)
packed_forms p variable fixed limit cap =
    map (packed_form (bare p) (packed_sites p variable) variable (packed_sites p fixed) fixed) (packed_choices (packed_sites p variable) variable limit cap)

-- the site that a number stands for
abbrev unpack : ℕ → Site
unpack x = rule_site (rule_of x) (slot_of x)

unpacked : (r slot : ℕ) → slot < 128 → rule_site r slot ≡ unpack (r * 128 + slot)
unpacked r slot h = ap₂ rule_site (sym (rule_back r slot h)) (sym (slot_back r slot h))

-- ---- the kind and the letter of a rule are read back

letter_back : (kind b : ℕ) → letter_of (specificity kind b) ≡ b
letter_back kind b = go (eqb kind 1) (eqb kind 2) (eqb kind 3) (eqb kind 4)
  where
    go : (i j k l : Bool) → letter_of (cond i (PeptideN b) (cond j (PeptideC b) (cond k (ProteinN b) (cond l (ProteinC b) (Residue b))))) ≡ b
    go true j k l = refl
    go false true k l = refl
    go false false true l = refl
    go false false false true = refl
    go false false false false = refl

kind_back : (kind b : ℕ) → kind ≤ 4 → kind_of (specificity kind b) ≡ kind
kind_back zero b h = refl
kind_back (suc zero) b h = refl
kind_back (suc (suc zero)) b h = refl
kind_back (suc (suc (suc zero))) b h = refl
kind_back (suc (suc (suc (suc zero)))) b h = refl
kind_back (suc (suc (suc (suc (suc k))))) b h = absurd (omega arith)

-- each record has the kind of a rule
abbrev Kinds : List ℕ → Type 0
Kinds rules = (r : ℕ) → r < length rules / 8 → kind_at rules r ≤ 4

kinds : (fixed : Bool) (rules : List ℕ) → field_tested (first_bad_rule fixed rules) (length rules / 8) ≡ Passed → Kinds rules
unfolding first_bad_rule good_rule
kinds fixed rules e r h =
    let kind : ℕ = kind_at rules r in
    let l : length rules / 8 ≤ first_bad_rule fixed rules = ltb-false (first_bad_rule fixed rules) (length rules / 8) (passed-field (first_bad_rule fixed rules) (length rules / 8) e) in
    let g : good_rule fixed rules r ≡ true = not-false (good_rule fixed rules r) (seek_before (no_rule fixed rules) 0 (length rules / 8) r (omega arith) (omega arith)) in
    let id : Bool = not (eqb (get_or rules (r * 8 + 2) 0) 0) in
    let zero : Bool = eqb (get_or rules (r * 8 + 3) 0) 0 in
    let free : Bool = not fixed || eqb (number_at 4 rules (r * 8 + 4)) no_limit in
    let s = (both (sound kind (letter_at rules r)) id (both (sound kind (letter_at rules r) && id) zero (both (sound kind (letter_at rules r) && id && zero) free g).0).0).0 in
    leb-true kind 4 (both (leb kind 4) _ s).0

-- ---- the sites

residues : (r : ℕ) (hit : ℕ → Bool) (j c : ℕ) → j + c ≤ 64 → map (rule_site r) (keep hit (up_from (suc (suc j)) c)) ≡ map unpack (hit_from (λ (k : ℕ). hit (suc (suc k))) (r * 128) j c)
unfolding hit_from if_hit
residues r hit j zero h = refl
residues r hit j (suc c) h = go (hit (suc (suc j))) (residues r hit (suc j) c (omega arith))
  where
    here : rule_site r (suc (suc j)) ≡ unpack (r * 128 + (j + 2))
    here = unpacked r (suc (suc j)) (omega arith) ∙ ap unpack (let e : r * 128 + suc (suc j) ≡ r * 128 + (j + 2) = omega arith in e)

    go : (b : Bool) → map (rule_site r) (keep hit (up_from (suc (suc (suc j))) c)) ≡ map unpack (hit_from (λ (k : ℕ). hit (suc (suc k))) (r * 128) (suc j) c)
        → map (rule_site r) (cond b (suc (suc j) ∷ keep hit (up_from (suc (suc (suc j))) c)) (keep hit (up_from (suc (suc (suc j))) c)))
        ≡ map unpack (cond b ((r * 128 + (j + 2)) ∷ []) [] ++ hit_from (λ (k : ℕ). hit (suc (suc k))) (r * 128) (suc j) c)
    go true e = ap₂ {C = List Site} (λ (x : Site) (xs : List Site). x ∷ xs) here e
    go false e = e

-- of one rule: the slots of both ends, then those of the residues
rule-sites : (p : Peptide) (r kind letter : ℕ) → p.len ≤ 64 → map (rule_site r) (keep (hits p kind letter) (up_from 0 (p.len + 2))) ≡ map unpack (slot_numbers (capitals p.letters) p.len kind p.position letter (r * 128))
unfolding slot_numbers places_of if_hit
rule-sites p r kind letter h =
    ap (λ (n : ℕ). map (rule_site r) (keep (hits p kind letter) (up_from 0 n))) (let e : p.len + 2 ≡ suc (suc p.len) = omega arith in e)
    ∙ go (hits p kind letter 0) (hits p kind letter 1) (residues r (hits p kind letter) 0 p.len (omega arith))
  where
    rest : List ℕ
    rest = keep (hits p kind letter) (up_from 2 p.len)

    more : List ℕ
    more = hit_from (λ (k : ℕ). hits p kind letter (suc (suc k))) (r * 128) 0 p.len

    at : (slot : ℕ) → slot < 128 → (xs : List Site) → rule_site r slot ∷ xs ≡ unpack (r * 128 + slot) ∷ xs
    at slot l xs = ap (λ (x : Site). x ∷ xs) (unpacked r slot l)

    zero_slot : r * 128 ≡ r * 128 + 0
    zero_slot = omega arith

    second : (c : Bool) → map (rule_site r) rest ≡ map unpack more → map (rule_site r) (cond c (1 ∷ rest) rest) ≡ map unpack (cond c ((r * 128 + 1) ∷ []) [] ++ more)
    second true e = at 1 (omega arith) (map (rule_site r) rest) ∙ ap (λ (xs : List Site). unpack (r * 128 + 1) ∷ xs) e
    second false e = e

    go : (b c : Bool) → map (rule_site r) rest ≡ map unpack more
        → map (rule_site r) (cond b (0 ∷ cond c (1 ∷ rest) rest) (cond c (1 ∷ rest) rest)) ≡ map unpack (cond b ((r * 128) ∷ []) [] ++ (cond c ((r * 128 + 1) ∷ []) [] ++ more))
    go true c e =
        at 0 (omega arith) (map (rule_site r) (cond c (1 ∷ rest) rest))
        ∙ ap₂ {C = List Site} (λ (x : ℕ) (xs : List Site). unpack x ∷ xs) (sym zero_slot) (second c e)
    go false c e = second c e

sites-from : (p : Peptide) (rules : List ℕ) → p.len ≤ 64 → Kinds rules → (r k : ℕ) → r + k ≤ length rules / 8
    → flatten (map (λ (i : ℕ). map (rule_site i) (slots_of p (rule_at rules i))) (up_from r k)) ≡ map unpack (sites_from (capitals p.letters) p.len p.position rules r k)
unfolding sites_from flatten
sites-from p rules h good r zero l = refl
sites-from p rules h good r (suc k) l =
    ap₂ ◌++◌
    (ap₂ (λ (kind letter : ℕ). map (rule_site r) (keep (hits p kind letter) (up_from 0 (p.len + 2)))) (kind_back (kind_at rules r) (letter_at rules r) (good r (omega arith))) (letter_back (kind_at rules r) (letter_at rules r))
    ∙ rule-sites p r (kind_at rules r) (letter_at rules r) h)
    (sites-from p rules h good (suc r) k (omega arith))
    ∙ sym (map-append unpack (slot_numbers (capitals p.letters) p.len (kind_at rules r) p.position (letter_at rules r) (r * 128)) (sites_from (capitals p.letters) p.len p.position rules (suc r) k))

sites-packed : (p : Peptide) (rules : List ℕ) → p.len ≤ 64 → Kinds rules → rule_sites p rules ≡ map unpack (packed_sites p rules)
unfolding rule_sites all_sites
sites-packed p rules h good = sites-from p rules h good 0 (length rules / 8) (omega arith)

-- ---- which choices pass

abbrev on_slot : ℕ → Site → Bool
on_slot slot t = eqb t.slot slot

abbrev of_rule : ℕ → Site → Bool
of_rule rule t = eqb t.rule rule

count-rule : (rule : ℕ) (xs : List ℕ) → count (of_rule rule) (map unpack xs) ≡ uses_in rule xs
unfolding uses_in
count-rule rule [] = refl
count-rule rule (x ∷ xs) = ap (λ (n : ℕ). bit (eqb (rule_of x) rule) + n) (count-rule rule xs)

count_slot : (slot : ℕ) (xs : List ℕ) → free_in slot xs ≡ eqb (count (on_slot slot) (map unpack xs)) 0
unfolding free_in
count_slot slot [] = refl
count_slot slot (x ∷ xs) = go (eqb (slot_of x) slot) (count_slot slot xs)
  where
    go : (b : Bool) → free_in slot xs ≡ eqb (count (on_slot slot) (map unpack xs)) 0
        → not b && free_in slot xs ≡ eqb (bit b + count (on_slot slot) (map unpack xs)) 0
    go true e = sym (ne_eqb (1 + count (on_slot slot) (map unpack xs)) 0 (λ z. omega arith))
    go false e = e ∙ ap (λ (n : ℕ). eqb n 0) (sym (zero-add (count (on_slot slot) (map unpack xs))))

-- the slot of s is used once among some sites
abbrev alone : List ℕ → Site → Bool
alone whole s = leb (count (on_slot s.slot) (map unpack whole)) 1

-- a site on another slot changes nothing
apart : (x : ℕ) (whole xs : List ℕ) → free_in (slot_of x) xs ≡ true → each (alone (x ∷ whole)) (map unpack xs) ≡ each (alone whole) (map unpack xs)
unfolding free_in
apart x whole [] h = refl
apart x whole (y ∷ xs) h =
    let b = both (not (eqb (slot_of y) (slot_of x))) (free_in (slot_of x) xs) h in
    let n : slot_of y ≡ slot_of x → ⊥ = eqb-false (slot_of y) (slot_of x) (not-true (eqb (slot_of y) (slot_of x)) b.0) in
    let e : eqb (slot_of x) (slot_of y) ≡ false = ne_eqb (slot_of x) (slot_of y) (λ (q : slot_of x ≡ slot_of y). n (sym q)) in
    let same : count (on_slot (slot_of y)) (map unpack (x ∷ whole)) ≡ count (on_slot (slot_of y)) (map unpack whole) = ap (λ (t : Bool). bit t + count (on_slot (slot_of y)) (map unpack whole)) e ∙ zero-add (count (on_slot (slot_of y)) (map unpack whole)) in
    ap₂ ◌&&◌ (ap (λ (k : ℕ). leb k 1) same) (apart x whole xs b.1)

once-each : (xs : List ℕ) → once_in xs ≡ each (alone xs) (map unpack xs)
unfolding once_in
once-each [] = refl
once-each (x ∷ xs) = go (free_in (slot_of x) xs) refl (once-each xs)
  where
    k : ℕ
    k = count (on_slot (slot_of x)) (map unpack xs)

    more : count (on_slot (slot_of x)) (map unpack (x ∷ xs)) ≡ 1 + k
    more = ap (λ (t : Bool). bit t + k) (eq-eqb (slot_of x) (slot_of x) refl)

    go : (b : Bool) → free_in (slot_of x) xs ≡ b → once_in xs ≡ each (alone xs) (map unpack xs) → b && once_in xs ≡ alone (x ∷ xs) (unpack x) && each (alone (x ∷ xs)) (map unpack xs)
    go true e rest =
        let z : k ≡ 0 = eqb-true k 0 (sym (count_slot (slot_of x) xs) ∙ e) in
        rest
        ∙ sym (apart x xs xs e)
        ∙ ap (λ (t : Bool). t && each (alone (x ∷ xs)) (map unpack xs)) (sym (le-leb (count (on_slot (slot_of x)) (map unpack (x ∷ xs))) 1 (omega (arith, more))))
    go false e rest =
        let z : k ≡ 0 → ⊥ = eqb-false k 0 (sym (count_slot (slot_of x) xs) ∙ e) in
        ap (λ (t : Bool). t && each (alone (x ∷ xs)) (map unpack xs)) (sym (lt-leb (count (on_slot (slot_of x)) (map unpack (x ∷ xs))) 1 (omega (arith, more))))

-- the rule of s is used no more often than its limit
abbrev limited : List ℕ → List ℕ → Site → Bool
limited rules whole s = leb (count (of_rule s.rule) (map unpack whole)) (rule_at rules s.rule).limit

limits_each : (rules whole xs : List ℕ) → limits_in rules whole xs ≡ each (limited rules whole) (map unpack xs)
unfolding limits_in
limits_each rules whole [] = refl
limits_each rules whole (x ∷ xs) = ap₂ ◌&&◌ (ap (λ (n : ℕ). leb n (limit_at rules (rule_of x))) (sym (count-rule (rule_of x) whole))) (limits_each rules whole xs)

each_both : (f g : Site → Bool) (ss : List Site) → each f ss && each g ss ≡ each (λ (s : Site). f s && g s) ss
each_both f g [] = refl
each_both f g (s ∷ ss) = swap (f s) (each f ss) (g s) (each g ss) ∙ ap (λ (t : Bool). (f s && g s) && t) (each_both f g ss)

passes-packed : (rules xs : List ℕ) → fine rules xs ≡ passes rules (map unpack xs)
unfolding fine passes
passes-packed rules xs = ap₂ ◌&&◌ (once-each xs) (limits_each rules xs xs) ∙ each_both (alone xs) (limited rules xs) (map unpack xs)

-- ---- the forms

chosen-packed : (ps c : List ℕ) → chosen (map unpack ps) c ≡ map unpack (packed_chosen ps c)
unfolding packed_chosen
chosen-packed ps [] = refl
chosen-packed ps (k ∷ c) = ap₂ {C = List Site} (λ (x : Site) (xs : List Site). x ∷ xs) (get_or-map unpack ps k 0) (chosen-packed ps c)

filled-packed : (rules form xs : List ℕ) → filled rules form (map unpack xs) ≡ apply rules form xs
unfolding filled apply
filled-packed rules form [] = refl
filled-packed rules form (x ∷ xs) = filled-packed rules (fill_site rules form x) xs

choices-packed : (ps rules : List ℕ) (limit cap : ℕ) → choices (map unpack ps) rules limit cap ≡ packed_choices ps rules limit cap
unfolding choices packed_choices
choices-packed ps rules limit cap =
    ap (λ (z : List (List ℕ)). [] ∷ up_to_cap cap 1 z)
    (ap (λ (n : ℕ). keep (λ (c : List ℕ). passes rules (chosen (map unpack ps) c)) (by_size n 1 limit)) (length-map ps unpack)
    ∙ keep-alike (λ (c : List ℕ). passes rules (chosen (map unpack ps) c)) (packed_passes ps rules) (by_size (length ps) 1 limit)
    (λ c i. ap (passes rules) (chosen-packed ps c) ∙ sym (passes-packed rules (packed_chosen ps c)) ∙ sym (passes-chosen ps rules c)))

-- the law: where the tests passed, the forms are those that the code's numbers make
pub forms_packed : (p : Peptide) (variable fixed : List ℕ) (limit cap : ℕ) → p.len ≤ 64 → tested_lists variable fixed ≡ Passed → forms_of p variable fixed limit cap ≡ packed_forms p variable fixed limit cap
unfolding tested_lists forms_of packed_forms form_of packed_form
forms_packed p variable fixed limit cap h e =
    let t = passed-both (field_tested (first_bad_rule false variable) (length variable / 8)) (field_tested (first_bad_rule true fixed) (length fixed / 8)) e in
    let v : rule_sites p variable ≡ map unpack (packed_sites p variable) = sites-packed p variable h (kinds false variable t.0) in
    let f : rule_sites p fixed ≡ map unpack (packed_sites p fixed) = sites-packed p fixed h (kinds true fixed t.1) in
    map-alike (form_of p variable fixed) (packed_form (bare p) (packed_sites p variable) variable (packed_sites p fixed) fixed) (choices (rule_sites p variable) variable limit cap) (λ c i. form v f c)
    ∙ ap (map (packed_form (bare p) (packed_sites p variable) variable (packed_sites p fixed) fixed))
    (ap (λ (s : List Site). choices s variable limit cap) v ∙ choices-packed (packed_sites p variable) variable limit cap)
  where
    form : rule_sites p variable ≡ map unpack (packed_sites p variable) → rule_sites p fixed ≡ map unpack (packed_sites p fixed) → (c : List ℕ)
        → form_of p variable fixed c ≡ packed_form (bare p) (packed_sites p variable) variable (packed_sites p fixed) fixed c
    form v f c =
        ap₂ (λ (x y : List Site). filled fixed (filled variable (bare p) (chosen x c)) y) v f
        ∙ ap (λ (x : List Site). filled fixed (filled variable (bare p) x) (map unpack (packed_sites p fixed))) (chosen-packed (packed_sites p variable) c)
        ∙ ap (λ (x : List ℕ). filled fixed x (map unpack (packed_sites p fixed))) (filled-packed variable (bare p) (packed_chosen (packed_sites p variable) c))
        ∙ filled-packed fixed (apply variable (bare p) (packed_chosen (packed_sites p variable) c)) (packed_sites p fixed)
