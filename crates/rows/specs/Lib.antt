pub mod Values
pub mod Cores
pub mod Rows
pub mod Make
