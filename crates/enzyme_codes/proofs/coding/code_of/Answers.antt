-- `code_of` meets its contract. Assumes nothing.
use Rattle.enzyme_codes.specs.Codes.{code_of}
use Rattle.enzyme_codes.proofs.coding.code_of.Goals as goal

pub returns : goal.returns
unfolding code_of
returns c = cc
