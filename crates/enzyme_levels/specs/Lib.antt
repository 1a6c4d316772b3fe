-- Nothing here has to be believed: Levels says what the tables hold for windows of n sites, the files named Laws how a level makes it, and
-- WeightLaws which weights it gives. A caller makes TextsPlaced by `pieces-placed` of FirstLaws.
pub mod Levels
pub mod ReadyLaws
pub mod LevelLaws
pub mod FirstLaws
pub mod WeightLaws
