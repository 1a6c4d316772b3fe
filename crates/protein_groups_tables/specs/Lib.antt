-- Nothing here has to be believed: Placed says where in the lent slice the grouping stands, the files named Laws what the
-- functions leave there, in the words of protein_groups_spec, and why.
pub mod PlanLaws
pub mod EvidenceLaws
pub mod PeptideLaws
pub mod ProteinLaws
pub mod Placed
pub mod PlacedLaws
