pub mod FoundLemmas
pub mod HeldLemmas
pub mod ResultLemmas
