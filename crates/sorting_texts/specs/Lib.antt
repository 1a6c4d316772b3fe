-- What a reader has to believe: nothing. Text and Walk say what the contracts of these parts mean; no entry's contract cites them. The
-- files named Laws say what follows.
pub mod Text
pub mod TextLaws
pub mod Walk
pub mod EntryLaws
pub mod WalkLaws
