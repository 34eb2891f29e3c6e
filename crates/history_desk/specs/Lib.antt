-- Every line of a history. Assumes nothing.
pub mod Desk
pub mod Lent
pub mod Speaking
pub mod Malformed
