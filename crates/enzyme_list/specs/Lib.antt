-- Nothing here is for a reader to believe: Chain, Insert, Tally and Offer say what the code does; the files named Laws say what follows.
pub mod Chain
pub mod Insert
pub mod Tally
pub mod Offer
pub mod ChainLaws
pub mod InsertLaws
pub mod StoreLaws
pub mod AdviceLaws
pub mod TallyLaws
pub mod OfferLaws
pub mod WriteLaws
