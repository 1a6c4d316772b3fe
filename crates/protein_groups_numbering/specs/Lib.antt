-- What a reader has to believe: nothing; the files named Laws say what the functions leave in the lent slice, in the words of lists
-- and protein_groups_spec, and why.
pub mod SliceLaws
pub mod KnowingLaws
pub mod SpreadLaws
