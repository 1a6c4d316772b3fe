-- Nothing here has to be believed: Starts says what the table holds, the files named Laws what follows of it and how the scan fills it.
pub mod Starts
pub mod StartsLaws
pub mod Scanning
pub mod ScanningLaws
