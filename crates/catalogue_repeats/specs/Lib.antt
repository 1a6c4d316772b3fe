-- What a reader has to believe: nothing. Repeating says what the contracts of these parts mean; no entry's contract cites it. RepeatingLaws
-- says what follows.
pub mod Repeating
pub mod RepeatingLaws
