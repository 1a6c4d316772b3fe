-- What a reader has to believe: nothing; the files named Laws say what the functions leave in the lent slice, in the words of lists,
-- and why.
pub mod KeySorting
pub mod SumLaws
pub mod BoundLaws
pub mod CountingLaws
pub mod SliceLaws
pub mod KeySortLaws
