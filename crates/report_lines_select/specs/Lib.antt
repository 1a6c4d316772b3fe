-- Nothing here has to be believed: Selecting says what the steps leave in the lent slice, Laying what is asked of the whole.
pub mod Selecting
pub mod PickLaws
pub mod GatherLaws
pub mod Laying
pub mod LayLaws
pub mod StretchLaws
