pub mod Agents
pub mod Boards
