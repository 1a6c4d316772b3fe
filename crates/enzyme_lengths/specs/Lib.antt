-- Nothing here is for a reader to believe: Listing says what the code does; the files named Laws say what follows.
pub mod Listing
pub mod ShowingLaws
pub mod ListingLaws
pub mod StartLaws
pub mod PositionLaws
pub mod TellingLaws
pub mod Reading
