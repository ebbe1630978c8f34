pub mod Agents
pub mod Clients
pub mod Entrants
pub mod Wires
