-- What a reader has to believe: Peptides, Digested, Sites, Forms, and in the parts Masses of peptide_mass, DigestTests of
-- peptide_digests and FormTests of peptide_listing. Cases has document 01's examples, and the files named Laws say what follows;
-- PackedLaws has what the listing goes by.
pub mod Peptides
pub mod Digested
pub mod Sites
pub mod Forms
pub mod Cases
pub mod PeptideLaws
pub mod DigestedLaws
pub mod PackedLaws
pub mod FormLaws
