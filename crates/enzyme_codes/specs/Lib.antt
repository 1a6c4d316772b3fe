-- Nothing here has to be believed: Codes says how a code is made.
pub mod Codes
