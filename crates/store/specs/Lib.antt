-- What a store of cells holds, with its laws. Assumes nothing.
pub mod Store
pub mod Laws
