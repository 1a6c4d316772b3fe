-- What a reader has to believe: Digests. Buffer and Steps say what the code does; the files named Laws say what
-- follows.
pub mod Digests
pub mod Buffer
pub mod Steps
pub mod BufferLaws
pub mod StepLaws
pub mod PutLaws
