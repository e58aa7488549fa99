-- Laws of places, and that a struct of arrays hides none.
pub mod Laws
pub mod Injective
pub mod Beside
