pub mod Values
pub mod Cored
pub mod Readings
pub mod Made
