-- What the listing answers.
use Rattle.std.specs.Prelude.{ℕ, Option}

-- how many forms stand there, if all have room
abbrev pub Listed : Type 0
Listed = Option ℕ
