-- What a reader has to believe: Enumeration. Passing and Packed say what the code goes by, and the files named Laws what
-- follows; RunLaws has what the listing goes by.
pub mod Enumeration
pub mod Passing
pub mod Packed
pub mod Listed
pub mod PassingLaws
pub mod SizeLaws
pub mod UsedLaws
pub mod TurnLaws
pub mod VisitLaws
pub mod RunLaws
pub mod LoopLaws
pub mod CapLaws
