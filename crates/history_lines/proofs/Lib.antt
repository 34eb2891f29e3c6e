-- What the code of `history_lines` is. Assumes nothing.
pub mod Looking
