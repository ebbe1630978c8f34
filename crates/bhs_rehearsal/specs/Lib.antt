pub mod Connections
pub mod Games
pub mod Choices
pub mod Rehearsing
pub mod Stages
pub mod Holders
pub mod Takings
