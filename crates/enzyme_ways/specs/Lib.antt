-- Nothing here has to be believed: Ways says what the code goes through, WayLaws that it keeps the digests.
pub mod Ways
pub mod WayLaws
