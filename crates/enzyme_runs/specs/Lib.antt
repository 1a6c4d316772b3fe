-- Nothing here has to be believed: the files named Laws say how the steps go together.
pub mod RunLaws
pub mod ArrangeLaws
pub mod SortedLaws
pub mod StepLaws
