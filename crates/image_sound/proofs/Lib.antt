-- What the code of `image_sound` does. Assumes nothing.
pub mod Laws
