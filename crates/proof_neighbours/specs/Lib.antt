-- Document 02, P11: what a landlord is told does not depend on his neighbours' private business. Assumes nothing.
pub mod Neighbours
pub mod Sees
pub mod Others
pub mod LookUp
pub mod Requests
pub mod Blotted
