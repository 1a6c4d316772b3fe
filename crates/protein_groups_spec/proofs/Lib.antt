-- What follows from the definitions: what rests on the grouping as it stands in specs.
pub mod PackingLaws
pub mod GroupingLaws
pub mod SizeLaws
pub mod TheoremLaws
pub mod AlikeLaws
