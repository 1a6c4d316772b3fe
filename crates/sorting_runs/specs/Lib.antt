-- What a reader has to believe: nothing. Numbering says what the contract of `number_runs`, a part, means; no entry's contract cites it.
-- NumberLaws says what follows.
pub mod NumberLaws
pub mod Numbering
