-- Nothing here is for a reader to believe: Fresh says what the code offers of a set; the files named Laws, here and in proofs, say what
-- follows.
pub mod Fresh
pub mod LetterLaws
pub mod ToldLaws
pub mod FewerLaws
pub mod CountLaws
