-- What a reader has to believe: Calls, FileCalls, DigestCalls, PeptideCalls. The files named Laws say what follows from them.
pub mod Calls
pub mod CallLaws
pub mod FileCalls
pub mod FileCallLaws
pub mod DigestCalls
pub mod DigestCallLaws
pub mod PeptideCalls
pub mod PeptideCallLaws
