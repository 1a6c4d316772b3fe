-- Nothing here is for a reader to believe: Marks says what the code does; MarkLaws says what follows.
pub mod Marks
pub mod MarkLaws
