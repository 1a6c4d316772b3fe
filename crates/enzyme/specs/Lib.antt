-- What a reader has to believe: Digestion and Reversal of enzyme_spec. RunLaws says what follows of the digests that are kept.
pub mod RunLaws
