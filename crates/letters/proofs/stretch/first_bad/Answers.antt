-- `first_bad` meets its contract. Assumes nothing.
use Rattle.letters.proofs.stretch.first_bad.Goals as goal

pub returns-then-all_good : goal.returns-then-all_good
returns-then-all_good c = c.all_good.ensures c.if-all_good.true
