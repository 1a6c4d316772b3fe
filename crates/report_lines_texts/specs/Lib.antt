-- Nothing here has to be believed: the files named Laws say what the functions leave in the lent bytes, and why.
pub mod WriteLaws
pub mod WalkLaws
pub mod ByteLaws
