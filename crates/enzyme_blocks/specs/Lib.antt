-- Nothing here is for a reader to believe: Blocks says what the code does, BlockLaws what follows.
pub mod Blocks
pub mod BlockLaws
