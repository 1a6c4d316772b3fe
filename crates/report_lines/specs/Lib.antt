-- What a reader has to believe: Reporting, and below it Testing of report_lines_tests, Line of report_lines_spec, Members of
-- protein_groups_members, Names of catalogue_spec. ReportingLaws says what follows; Cases has worked cases.
pub mod Reporting
pub mod ReportingLaws
pub mod Cases
