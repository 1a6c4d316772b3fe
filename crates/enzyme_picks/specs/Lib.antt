-- Nothing here has to be believed: Picks says what the code writes, the files named Laws that it is what is kept.
pub mod Picks
pub mod PickLaws
