-- Nothing here has to be believed: FirstLaws says what the first pass leaves in the tables.
pub mod FirstLaws
