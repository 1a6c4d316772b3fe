-- What a reader has to believe: Testing, and below it ProteinGroups of protein_groups_spec. TestingLaws says what follows.
pub mod Testing
pub mod TestingLaws
