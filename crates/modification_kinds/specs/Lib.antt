-- What a reader has to believe: Specificities.
pub mod Specificities
