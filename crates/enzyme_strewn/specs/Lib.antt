-- Nothing here has to be believed: Shuffled says what strewing leaves, the files named Laws why.
pub mod Shuffled
pub mod ShuffleLaws
