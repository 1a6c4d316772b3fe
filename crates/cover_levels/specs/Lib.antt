-- Nothing here has to be believed: KeyedLaws says what a sort by keys gives, PrepareLaws how the tables are made; in proofs OrderLaws says
-- how the groups then stand.
pub mod KeyedLaws
pub mod PrepareLaws
