-- Nothing here has to be believed: Told says what the tables of a level hold, the files named Laws what is read off them.
pub mod Told
pub mod ToldLaws
pub mod StepLaws
