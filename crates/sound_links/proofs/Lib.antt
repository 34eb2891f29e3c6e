-- What the code of `sound_links` is. Assumes nothing.
pub mod Links
