-- What follows from the definitions: what rests on the pieces and the numbers as they stand in specs.
pub mod CutLaws
pub mod PlaceLaws
pub mod FilledLaws
pub mod KeptLaws
pub mod FirstLaws
pub mod ClassLaws
pub mod TableLaws
pub mod HavingLaws
