pub mod Rules
pub mod Closure
pub mod Joins
pub mod Steps
