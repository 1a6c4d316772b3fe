-- What a reader has to believe: Texts. TextLaws says what follows.
pub mod Texts
pub mod TextLaws
