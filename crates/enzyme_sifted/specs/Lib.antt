-- Nothing here has to be believed: Sifted says which sites are found, SiftLaws that none is missed.
pub mod Sifted
pub mod SiftLaws
