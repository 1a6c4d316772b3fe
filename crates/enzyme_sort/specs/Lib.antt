-- Nothing here is for a reader to believe: the files named Laws say what the steps of the sort leave.
pub mod SiteLaws
pub mod InsertLaws
pub mod MergingLaws
