-- What a reader has to believe stands in the parts: Specificities of modification_kinds, Texts of modification_texts, Rules of
-- modification_rules, Tables of modification_table. Cases has worked cases.
pub mod Cases
