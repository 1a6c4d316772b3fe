-- What a reader has to believe: Edges.
pub mod Edges
pub mod Records
pub mod RangeLaws
pub mod EdgeLaws
pub mod BackLaws
pub mod TableLaws
pub mod Chains
pub mod ChainLaws
pub mod PutLaws
