pub mod Tables
pub mod Faults
pub mod Steps
pub mod Laws
