-- What follows from the definitions: what rests on Repeats as it stands in specs.
pub mod KeptLaws
pub mod FreshLaws
