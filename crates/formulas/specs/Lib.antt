pub mod Formulas
pub mod Rules
pub mod Bounds
pub mod Laws
