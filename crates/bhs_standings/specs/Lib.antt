pub mod Ranks
pub mod Tables
pub mod Shown
