-- What a reader has to believe: Tables. TableLaws says what follows.
pub mod Tables
pub mod TableLaws
