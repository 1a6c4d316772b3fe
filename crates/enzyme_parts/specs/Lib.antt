-- Nothing here has to be believed: Weighed says what is offered, Walk what the tables stand for, Going where a loop stands; the files named Laws say
-- what follows.
pub mod Weighed
pub mod Walk
pub mod WalkLaws
pub mod Going
pub mod GoingLaws
pub mod PassLaws
