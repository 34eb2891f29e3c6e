-- A request on the cells of sound tables is the same request on what they say, and leaves them sound. Assumes nothing.
pub mod Fits
pub mod Agrees
pub mod Requests
pub mod Runs
pub mod Reset
