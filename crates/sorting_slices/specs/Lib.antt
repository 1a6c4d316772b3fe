-- What a reader has to believe: nothing. Sorting says what the contract of `sort`, a part, means; no entry's contract cites it. SortingLaws
-- says what follows.
pub mod Sorting
pub mod SortingLaws
