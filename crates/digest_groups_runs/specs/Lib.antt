-- What a reader has to believe: nothing. Turns says what a run leaves, TurnLaws what follows.
pub mod Turns
pub mod TurnLaws
