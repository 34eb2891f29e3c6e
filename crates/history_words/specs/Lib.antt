-- Words and numbers of a line. Assumes nothing.
pub mod Words
pub mod Laws
pub mod Reading
pub mod Steps
