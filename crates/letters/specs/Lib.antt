-- What a reader has to believe: Letters, Reversal. The files named Laws say what follows from them.
pub mod Letters
pub mod Reversal
pub mod BitLaws
pub mod CapitalLaws
pub mod LetterLaws
pub mod ReversalLaws
