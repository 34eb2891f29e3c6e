-- Document 02, P4: another's private file looks absent, nothing else does, and 12 is never given. Assumes nothing.
pub mod Refused
pub mod Never12
pub mod Absent
pub mod HidesNoMore
