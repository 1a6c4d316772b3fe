-- What a reader has to believe: Refusals, Answers, Outcome, Tested, Le, Room, Search. Cases says what a worked case is, and the files named
-- Laws what follows.
pub mod Refusals
pub mod RefusalLaws
pub mod Answers
pub mod Outcome
pub mod Tested
pub mod TestedLaws
pub mod Le
pub mod LeLaws
pub mod Room
pub mod RoomLaws
pub mod StoreLaws
pub mod Search
pub mod SearchLaws
pub mod SeekingLaws
pub mod Cases
pub mod CaseLaws
