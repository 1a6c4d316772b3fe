-- What a reader has to believe: Covering and Updating, and below them Testing of cover_tests, Cover, Update and Marks of cover_spec and
-- Edges of cover_edges. Theorems says what the cover and the update achieve.
pub mod Covering
pub mod Updating
pub mod Cases
pub mod CoveringLaws
pub mod HandingLaws
pub mod UpdatingLaws
pub mod Theorems
