-- Nothing here is for a reader to believe: Keys says what the code does, KeyLaws what follows.
pub mod Keys
pub mod KeyLaws
