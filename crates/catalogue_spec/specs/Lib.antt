-- What a reader has to believe: Names, Book, Books. The files named Laws say what follows; NameCases and Cases have worked cases.
pub mod Names
pub mod NameLaws
pub mod Book
pub mod BookLaws
pub mod Books
pub mod NameCases
pub mod Cases
