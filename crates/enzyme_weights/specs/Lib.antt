-- Nothing here has to be believed: Weights says what the code reads off the tables, SizeLaws how its loop goes on.
pub mod Weights
pub mod SizeLaws
