-- What a reader has to believe: nothing. Word and Tables say what the code goes by, and the files named Laws what follows.
pub mod Word
pub mod WordLaws
pub mod Tables
pub mod TableLaws
