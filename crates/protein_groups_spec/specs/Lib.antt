-- What a reader has to believe: ProteinGroups, and the words of the theorems in Standing. Cases is proved of ProteinGroups. PackedGroups
-- says the same of packed numbers, as the code does, and the files named Laws, here and in proofs, say what follows from it.
pub mod ProteinGroups
pub mod Standing
pub mod Cases
pub mod PackedGroups
pub mod CountingLaws
pub mod LeaderLaws
pub mod WholeLaws
pub mod ReadingLaws
pub mod Rows
