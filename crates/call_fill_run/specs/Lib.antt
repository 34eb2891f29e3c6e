-- The call that fills a list by next. Assumes nothing.
pub mod Turned
