-- What a reader has to believe: Sort, Lex, Joined, Distinct, Repeats, Runs. The files named Laws say what follows.
pub mod Sort
pub mod SortLaws
pub mod Lex
pub mod LexLaws
pub mod Joined
pub mod JoinLaws
pub mod PartLaws
pub mod MergeLaws
pub mod Runs
pub mod RunLaws
pub mod RankLaws
pub mod Distinct
pub mod DistinctLaws
pub mod Repeats
pub mod RepeatLaws
