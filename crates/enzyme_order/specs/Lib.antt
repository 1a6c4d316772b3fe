-- Nothing here is for a reader to believe: Order says what the code does, OrderLaws what follows.
pub mod Order
pub mod OrderLaws
