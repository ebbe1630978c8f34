pub mod EntryLemmas
pub mod HolderLemmas
pub mod PlayedLemmas
pub mod ReceiveLemmas
pub mod StageLemmas
pub mod TakeLemmas
