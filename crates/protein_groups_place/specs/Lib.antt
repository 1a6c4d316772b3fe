-- What a reader has to believe: nothing here; Placing says where in the work memory pairs stand, PlacingLaws what follows.
pub mod Placing
pub mod PlacingLaws
