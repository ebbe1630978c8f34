pub mod LackLemmas
pub mod Moving
pub mod Playing
pub mod SessionLaws
pub mod Taking
pub mod Writing
