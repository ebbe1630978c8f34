pub mod Unmapped
pub mod Ambiguity
pub mod Degrees
pub mod Lookalikes
