pub mod KeyTableLemmas
pub mod KeysFind
pub mod Passing
pub mod PlaceLemmas
