-- What a reader has to believe: nothing. NamesIn says what the contract of `names_tested_in`, a part, means; no entry's contract cites it.
-- NamesInLaws says what follows.
pub mod NamesIn
pub mod NamesInLaws
