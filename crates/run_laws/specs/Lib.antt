-- A run behind the gate: its single calls, one after another, and what they leave. Assumes nothing.
pub mod Singles
pub mod Stands
pub mod Pointed
pub mod Along
pub mod Admitted
