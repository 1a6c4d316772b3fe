-- Nothing here has to be believed: Tables says what the tables hold while the cover runs, RunLaws why a run of levels is the
-- cover's.
pub mod Tables
pub mod RunLaws
