-- What a reader has to believe: Cover, Update, Marks. The files named Laws, here and in proofs, say what follows: CoverLaws what the cover
-- achieves, UpdateLaws that the update gives the cover, ConnectedLaws that the part of a group is what is connected to it, TouchedLaws that
-- what is touched is connected to a difference.
pub mod Cover
pub mod Update
pub mod Marks
pub mod Order
pub mod Cases
pub mod CountLaws
pub mod TrimLaws
pub mod ListedLaws
