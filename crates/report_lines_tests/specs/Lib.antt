-- What a reader has to believe: Testing, and below it Members of protein_groups_members and Names of catalogue_spec. TestingLaws says
-- what follows.
pub mod Testing
pub mod TestingLaws
