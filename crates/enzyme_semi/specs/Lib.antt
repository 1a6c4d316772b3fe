-- Nothing here has to be believed: the files named Laws say what of the tables the ranges need, and what their weights come to.
pub mod Tables
pub mod SpotLaws
pub mod WeighedLaws
pub mod TallyLaws
pub mod WeightLaws
pub mod SemiLaws
