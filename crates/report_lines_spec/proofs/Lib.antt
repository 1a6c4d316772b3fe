-- CountLaws says how the count of a line relates to the `;` in it.
pub mod CountLaws
