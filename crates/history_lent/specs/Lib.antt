-- The calls that are lent images or lists. Assumes nothing.
pub mod Rooms
pub mod Images
pub mod Lists
pub mod Moves
pub mod ImageLaws
pub mod ListLaws
pub mod MoveLaws
