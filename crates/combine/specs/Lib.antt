-- Tests and lists by index. Assumes nothing.
pub mod Below
pub mod Rows
pub mod First
pub mod Lists
pub mod Verdict
pub mod Outcome
pub mod Run
pub mod Laws
