-- What a reader has to believe: Cutting. Scan and Work say what the code does; the files named Laws say what follows.
pub mod Cutting
pub mod SameLaws
pub mod Scan
pub mod Work
pub mod ScanLaws
pub mod InsideLaws
pub mod KeepLaws
pub mod HavingLaws
