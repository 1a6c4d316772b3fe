-- What a reader has to believe: nothing. Repeating says what the contract of `first_repeated`, a part, means; no entry's contract cites it.
-- LeastLaws says what follows.
pub mod Repeating
pub mod LeastLaws
