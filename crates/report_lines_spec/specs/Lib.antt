-- What a reader has to believe: Line. Cases is proved of it, and CountLaws of proofs/ says how its count relates to the `;` of the line; Stretches says
-- how the code lays its groups out.
pub mod Line
pub mod Cases
pub mod Stretches
pub mod StretchLaws
