pub mod Searchers
pub mod WakeUps
pub mod Modules
