-- What a reader has to believe: Hits, Mirror, Windows. Sites, Filling, Overlays and Used say what the code goes by, and the
-- files named Laws what follows.
pub mod Hits
pub mod Mirror
pub mod Windows
pub mod Sites
pub mod Filling
pub mod Overlays
pub mod Used
pub mod WroteLaws
pub mod SiteLaws
pub mod UsedLaws
pub mod OverlayLaws
pub mod FillLaws
pub mod MirrorLaws
pub mod WindowLaws
