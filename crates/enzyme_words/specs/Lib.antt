-- Nothing here has to be believed: Words says what the tables hold, WordLaws what follows.
pub mod Words
pub mod WordLaws
