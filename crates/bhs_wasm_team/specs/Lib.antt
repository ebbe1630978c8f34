pub mod Agents
pub mod Answering
pub mod Codes
pub mod Laws
pub mod Packing
pub mod Roles
pub mod Tables
