-- Nothing here has to be believed: Walking says what the tables hold, the files named Laws why the code keeps them so.
pub mod Walking
pub mod WalkingLaws
pub mod DifferingLaws
