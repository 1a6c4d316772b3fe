-- What a reader has to believe: Digestion, Reversal, and below them Cutting of enzyme_cuts and Digests of enzyme_keep. Cases is proved
-- of them.
pub mod Digestion
pub mod Reversal
pub mod Cases
