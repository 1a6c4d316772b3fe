-- Nothing here is for a reader to believe: Ready says what the code asks, answers and leaves; the files named Laws say what follows.
pub mod Ready
pub mod ReadyLaws
pub mod RangeLaws
