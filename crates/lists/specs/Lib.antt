-- What a reader has to believe: Lists. The files named Laws say what follows, Tests what follows of tests.
pub mod Lists
pub mod Tests
pub mod KeepLaws
pub mod TotalLaws
pub mod SameLaws
pub mod InLaws
pub mod RowLaws
pub mod KeyLaws
pub mod FirstLaws
pub mod ReverseLaws
pub mod FrameLaws
