-- Nothing here has to be believed: Noting says what the steps leave in the lent slice, NoteLaws why.
pub mod Noting
pub mod NoteLaws
