pub mod Masks
pub mod MaskLaws
pub mod Unions
pub mod Words
pub mod Families
pub mod Members
pub mod Listings
