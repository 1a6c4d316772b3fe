-- Nothing here has to be believed: ListLaws says what a level of ranked windows gives to the records.
pub mod ListLaws
