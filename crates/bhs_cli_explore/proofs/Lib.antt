mod HoleLemmas
pub mod HostLemmas
pub mod LinkLemmas
pub mod ListLemmas
pub mod ModuleLemmas
mod RoleLemmas
mod TellLemmas
