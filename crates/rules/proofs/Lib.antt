-- Laws of the rules that other crates cite. Assumes nothing.
pub mod Laws
