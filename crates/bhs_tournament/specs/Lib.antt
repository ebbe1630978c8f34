pub mod KeyTable
pub mod Lineups
pub mod Passes
