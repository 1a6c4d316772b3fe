-- Nothing here has to be believed: the files named Laws say what the functions leave in the lent slice, in the words of
-- protein_groups_spec, and why.
pub mod TakerLaws
pub mod OrderingLaws
pub mod ThingLaws
pub mod MetaLaws
