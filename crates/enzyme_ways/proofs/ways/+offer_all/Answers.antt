-- `offer_all` meets its contract, kind by kind; an empty set is looked at once more. Assumes nothing.
use native.Mathlib.Omega.{arith}
use mathlib.Core.Path.{◌≡◌, ap}
use borrow.Author.Tests.{eq-eqb, ne_eqb}
use Rattle.enzyme_cuts.specs.declared.kinds.Kind.TheVariants.{None, End, Set}
use Rattle.enzyme_ways.specs.Ways.{looks_again}
use Rattle.enzyme_ways.proofs.ways.+offer_all.Goals as goal

pub returns-then-n-le1024 : goal.returns-then-n-le1024
returns-then-n-le1024 t c = let k : c.args.enzyme.kind ≡ None = c.in-None.is in rw k c.none_with.ensures

pub returns-then-n-le8192 : goal.returns-then-n-le8192
returns-then-n-le8192 t c = let k : c.args.enzyme.kind ≡ None = c.in-None.is in rw k c.none_with-then-n-le8192.ensures

pub offer_all-requires : goal.offer_all-requires
offer_all-requires t c = let k : c.args.enzyme.kind ≡ Set c.in-Set.cleave = c.in-Set.is in
    let e : looks_again c.args.enzyme.kind ≡ 1 = ap looks_again k in
    (rw c.without_set-none.ensures (omega (arith, e)), c.requires)

pub returns-then-cleave-eq0 : goal.returns-then-cleave-eq0
returns-then-cleave-eq0 t c = let k : c.args.enzyme.kind ≡ Set c.in-Set.cleave = c.in-Set.is in
    rw (k, eq-eqb c.in-Set.cleave.mask 0 c.if-cleave-eq0.true) (rw c.without_set-none.ensures at c.offer_all.ensures)

pub returns-then-n-le1024-2 : goal.returns-then-n-le1024-2
returns-then-n-le1024-2 t c = let k : c.args.enzyme.kind ≡ Set c.in-Set.cleave = c.in-Set.is in
    rw (k, ne_eqb c.in-Set.cleave.mask 0 c.if-cleave-eq0.false, c.if-enzyme.true) (rw c.knife_of-knife.ensures at c.semi_with.ensures)

pub returns-then-n-le8192-2 : goal.returns-then-n-le8192-2
returns-then-n-le8192-2 t c = let k : c.args.enzyme.kind ≡ Set c.in-Set.cleave = c.in-Set.is in
    rw (k, ne_eqb c.in-Set.cleave.mask 0 c.if-cleave-eq0.false, c.if-enzyme.true) (rw c.knife_of-knife.ensures at c.semi_with-then-n-le8192-2.ensures)

pub returns-then-enzyme : goal.returns-then-enzyme
returns-then-enzyme t c = let k : c.args.enzyme.kind ≡ Set c.in-Set.cleave = c.in-Set.is in
    rw (k, ne_eqb c.in-Set.cleave.mask 0 c.if-cleave-eq0.false, c.if-enzyme.true) (rw c.knife_of-knife.ensures at c.semi_with-then-enzyme.ensures)

pub returns-then-n-le1024-3 : goal.returns-then-n-le1024-3
returns-then-n-le1024-3 t c = let k : c.args.enzyme.kind ≡ Set c.in-Set.cleave = c.in-Set.is in
    rw (k, ne_eqb c.in-Set.cleave.mask 0 c.if-cleave-eq0.false, c.if-enzyme.false) (rw c.knife_of-knife.ensures at c.windows_with.ensures)

pub returns-then-n-le8192-3 : goal.returns-then-n-le8192-3
returns-then-n-le8192-3 t c = let k : c.args.enzyme.kind ≡ Set c.in-Set.cleave = c.in-Set.is in
    rw (k, ne_eqb c.in-Set.cleave.mask 0 c.if-cleave-eq0.false, c.if-enzyme.false) (rw c.knife_of-knife.ensures at c.windows_with-then-n-le8192-3.ensures)

pub returns-else-n-le8192 : goal.returns-else-n-le8192
returns-else-n-le8192 t c = let k : c.args.enzyme.kind ≡ None = c.in-None.is in rw k c.none_with-in-None.ensures

pub returns-in-End : goal.returns-in-End
returns-in-End t c = let k : c.args.enzyme.kind ≡ End = c.in-End.is in rw k c.offer_end.ensures

pub returns-else-n-le8192-3 : goal.returns-else-n-le8192-3
returns-else-n-le8192-3 t c = let k : c.args.enzyme.kind ≡ Set c.in-Set.cleave = c.in-Set.is in
    rw (k, ne_eqb c.in-Set.cleave.mask 0 c.if-cleave-eq0.false, c.if-enzyme.false) (rw c.knife_of-knife.ensures at c.windows_with-in-Set.ensures)
