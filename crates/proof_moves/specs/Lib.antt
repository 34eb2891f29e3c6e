-- Segments get other numbers, and their cells go along: users know the same. Assumes nothing.
pub mod Exchange
pub mod Carried
pub mod Moves
pub mod Renumbered
pub mod Moved
pub mod Tidying
pub mod Numbered
pub mod Tables
pub mod Arranged
pub mod Outcome
pub mod Proved
