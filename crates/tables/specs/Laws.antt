-- The laws of this crate's definitions, which other crates cite. Assumes nothing.
pub mod Lists
pub mod Sound
pub mod Again
pub mod Put
pub mod Rows
pub mod ExtentFacts
pub mod RecordFacts
pub mod OpeningFacts
pub mod Lengths
pub mod Pointers
