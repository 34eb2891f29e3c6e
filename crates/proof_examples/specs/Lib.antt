-- The worked examples hold; and how a history is run above cells. Assumes nothing.
pub mod Fresh
pub mod OnSegments
pub mod Known
pub mod Saved
pub mod Moved
pub mod Tidied
pub mod Worked
