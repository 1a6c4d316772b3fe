-- Nothing here is for a reader to believe: TableLaws says what new tables are, Listed what is written with them.
pub mod TableLaws
pub mod Listed
