pub mod Closure
pub mod Steps
