pub mod Carries
pub mod Loaded
