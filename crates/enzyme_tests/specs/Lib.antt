-- What a reader has to believe: Digestion of enzyme_spec. TestLaws says what follows.
pub mod TestLaws
