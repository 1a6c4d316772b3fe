-- Nothing here has to be believed: the files named Laws say what the tables hold and what each step of the walk does to them.
pub mod TableLaws
pub mod StepLaws
