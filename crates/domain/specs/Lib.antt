pub mod Variables
pub mod Term
pub mod Outcomes
pub mod Model
pub mod Refusals
