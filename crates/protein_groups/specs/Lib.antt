-- What a reader has to believe: ProteinGrouping, and below it Testing of protein_groups_tests, ProteinGroups of protein_groups_spec,
-- Members of protein_groups_members and Edges of cover_edges. Theorems says what every call that passes its tests achieves, in the words
-- of Standing of protein_groups_spec. Steps says what holds between the steps, the files named Laws what follows, Cases is proved of the
-- definitions.
pub mod ProteinGrouping
pub mod Theorems
pub mod Steps
pub mod ProteinGroupingLaws
pub mod FinishLaws
pub mod Cases
