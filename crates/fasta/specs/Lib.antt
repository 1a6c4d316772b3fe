-- What a reader has to believe: Entries. EntryLaws and Theorems say what follows; Cases has worked cases.
pub mod Entries
pub mod EntryLaws
pub mod Theorems
pub mod Cases
