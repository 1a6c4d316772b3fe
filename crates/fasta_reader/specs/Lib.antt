-- What a reader has to believe: Places, and below it Entries of fasta.
pub mod Places
