pub mod Bits
pub mod Files
pub mod Flows
pub mod Lists
mod ModuleRows
mod Rows
pub mod Orders
