pub mod Contests
pub mod Instances
pub mod Example
pub mod ModuleContests
pub mod AttestedMatches
