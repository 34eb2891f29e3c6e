-- The kinds of number, sizes, where an element lies. Assumes nothing.
pub mod Sizes
pub mod Placing
pub mod Laws
