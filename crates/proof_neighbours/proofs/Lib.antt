-- Document 02, P11: what a landlord is told does not depend on his neighbours' private business; its definitions stand in specs/.
-- Assumes nothing.
pub mod Effects
pub mod Busy
pub mod Refiled
pub mod Twins
pub mod Own
pub mod Performed
pub mod Quiet
pub mod Steps
pub mod Cells
pub mod Good
pub mod Runs
pub mod Proved
pub mod AnsweredFromNone
pub mod ChangesNone
pub mod InSight
