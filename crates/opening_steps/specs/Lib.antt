-- What an opening spans, and positions held against its begin and end. Assumes nothing.
pub mod Spans
pub mod Bounds
