-- What a reader has to believe: Choices. Steps says what the counter answers, Cases has worked cases, and the files named
-- Laws say what follows.
pub mod Choices
pub mod ListingLaws
pub mod Stepped
pub mod Steps
pub mod Cases
pub mod OrderLaws
pub mod PruneLaws
pub mod SuccessorLaws
pub mod KeepLaws
pub mod StepLaws
pub mod LoopLaws
pub mod BoundLaws
pub mod VisitLaws
pub mod CostLaws
