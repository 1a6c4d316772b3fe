-- What a reader has to believe: DigestGroups and DigestGrouping of digest_groups_spec. DigestGroupingLaws says what follows.
pub mod DigestGroupingLaws
