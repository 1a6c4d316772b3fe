-- What a reader has to believe: nothing. Each says what the contract of `sort_each`, a part, means; no entry's contract cites it. EachLaws
-- says what follows; Cases has worked cases of every sort.
pub mod Each
pub mod EachLaws
pub mod Cases
