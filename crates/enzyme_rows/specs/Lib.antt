-- Nothing here has to be believed: Steps says what each step leaves, TurnLaws what a turn of its loop does.
pub mod Steps
pub mod TurnLaws
