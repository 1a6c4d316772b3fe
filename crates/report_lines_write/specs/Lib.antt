-- What a reader has to believe: nothing here; what the line is stands in Line of report_lines_spec. Laid says how the code reads its groups.
pub mod Laid
pub mod ListLaws
pub mod MarkLaws
pub mod CopyLaws
pub mod TextLaws
pub mod ReadyLaws
pub mod SizeLaws
pub mod LineLaws
pub mod OrderLaws
