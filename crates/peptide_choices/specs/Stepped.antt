-- What the counter answers.
use Rattle.std.specs.Prelude.{Option}
use Rattle.peptide_choices.specs.declared.choice.Choice.{Choice}

-- a choice, or that none is left
abbrev pub Stepped : Type 0
Stepped = Option Choice
