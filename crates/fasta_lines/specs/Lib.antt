-- What a reader has to believe: Lines. LineLaws and Theorems say what follows.
pub mod Lines
pub mod LineLaws
pub mod Theorems
