-- What a reader has to believe: DigestGroups, DigestGrouping, and below them Names and Book of catalogue_spec. Cases is proved of
-- them.
pub mod DigestGroups
pub mod DigestGrouping
pub mod Cases
