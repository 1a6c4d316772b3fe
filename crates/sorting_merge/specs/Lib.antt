-- What a reader has to believe: nothing. Halving says what the steps of a merge leave; the files named Laws say what a turn of it and the
-- sort of a range do.
pub mod Halving
pub mod TurnLaws
pub mod RangeLaws
