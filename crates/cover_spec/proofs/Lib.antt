-- What follows from the definitions: what rests on the cover, the update and the marks as they stand in specs.
pub mod TurnLaws
pub mod ChoiceLaws
pub mod CoverLaws
pub mod OneTrimLaws
pub mod TakeLaws
pub mod RunLaws
pub mod LevelLaws
pub mod PartLaws
pub mod LocalityLaws
pub mod ConnectedLaws
pub mod TouchedLaws
pub mod UpdateLaws
pub mod MarkLaws
