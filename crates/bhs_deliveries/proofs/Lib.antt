pub mod Words
pub mod MarkLemmas
pub mod DrawLemmas
pub mod DueLemmas
pub mod UntimelyLemmas
pub mod WaitingLemmas
