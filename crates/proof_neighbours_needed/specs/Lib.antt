-- Document 02, P11: each premise is needed, for without it there are two histories that tell the landlord otherwise; and there is a pair to which
-- the theorem applies. Assumes nothing.
pub mod Decided
pub mod Needed
pub mod Needed17
pub mod NeededLoad
pub mod Told
