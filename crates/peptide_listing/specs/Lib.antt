-- What a reader has to believe: FormTests. The files named Laws say what follows.
pub mod FormTests
pub mod FormTestLaws
pub mod ListingLaws
