-- Nothing here has to be believed: Touching says what the tables hold, the files named Laws why the code keeps them so.
pub mod Touching
pub mod TouchingLaws
pub mod SetUpLaws
pub mod MixingLaws
