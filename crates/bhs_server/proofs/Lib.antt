mod SealLemmas
mod PartLemmas
pub mod DrainedLemmas
pub mod ExchangeLemmas
pub mod KnownLemmas
pub mod ServedLemmas
pub mod WaitingLemmas
pub mod CrowdLemmas
