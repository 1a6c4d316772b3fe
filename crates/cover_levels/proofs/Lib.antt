-- What follows: OrderLaws that the groups stand in their order after the sort, TablesLaws that all tables are then made.
pub mod OrderLaws
pub mod TablesLaws
