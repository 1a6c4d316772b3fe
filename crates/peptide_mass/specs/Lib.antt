-- What a reader has to believe: Masses. MassLaws says what follows.
pub mod Masses
pub mod MassLaws
