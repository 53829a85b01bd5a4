pub mod Booleans
pub mod Lists
pub mod Terms
