pub mod KeyTable
pub mod Seats
pub mod Lineups
pub mod Fresh
