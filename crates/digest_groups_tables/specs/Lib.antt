-- What a reader has to believe: DigestGroups of digest_groups_spec. The files named Laws say what follows.
pub mod KeyLaws
pub mod SortedLaws
pub mod FinishLaws
