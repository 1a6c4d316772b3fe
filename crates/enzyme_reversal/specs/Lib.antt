-- What a reader has to believe: Reversal of enzyme_spec. The files named Laws say what follows.
pub mod ReversalLaws
pub mod SpellingLaws
