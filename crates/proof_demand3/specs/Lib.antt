-- Demand 3: an opening that is abandoned leaves no trace. Assumes nothing.
pub mod Eased
pub mod Calm
pub mod Another
pub mod Own
pub mod Runs
pub mod Steps
pub mod Started
pub mod Answers
pub mod ButOne
pub mod Needed9
pub mod Needed14
pub mod NeededRun
pub mod SavedImage
pub mod NeededLoad
