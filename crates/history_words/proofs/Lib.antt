-- What the code of `history_words` is. Assumes nothing.
pub mod Laws
