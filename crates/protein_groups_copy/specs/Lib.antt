-- What a reader has to believe: nothing here; WritingLaws says what is written, and why.
pub mod WritingLaws
