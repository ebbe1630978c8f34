pub mod Discoveries
pub mod HoleResults
pub mod Holes
pub mod HostAnswers
pub mod ModuleExploration
