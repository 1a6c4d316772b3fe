-- `has_small` meets its contract: what was found is of the bytes before. Assumes nothing.
use Rattle.std.proofs.Common.{◌≡◌, ℕ, ◌+◌, ◌<◌, Bool, ◌||◌, List, length, get_or, take, sym, ap, ◌∙◌, add-one, arith, take_all, take-suc}
use Rattle.lists.specs.Lists.{some}
use Rattle.lists.specs.KeepLaws.{some_app}
use Rattle.letters.specs.Letters.{is_small}
use Rattle.letters.proofs.stretch.has_small.Goals as goal

-- one byte more
next : (s : List ℕ) (i : ℕ) (found small : Bool) → i < length s → found ≡ some is_small (take i s) → small ≡ is_small (get_or s i 0) → (found || small) ≡ some is_small (take (i + 1) s)
next s i found small h e f = rw (e, f, add-one i) (sym (some_app is_small (take i s) (get_or s i 0)) ∙ ap (some is_small) (sym (take-suc s i 0 h)))

pub loop-b-preserved : goal.loop-b-preserved
loop-b-preserved c = next c.args.s.now c.loop-b.b-index c.loop-b.found c.is_small-found.result (omega arith) c.loop-b.invariant c.is_small-found.ensures

pub returns : goal.returns
returns c = c.loop-b.invariant ∙ ap (some is_small) (take_all c.loop-b.b-index c.args.s.now (omega arith))
