pub mod ListLemmas
pub mod SoundLemmas
pub mod PlaceLemmas
pub mod GrowthLemmas
pub mod MarkLemmas
pub mod PlayedLemmas
pub mod TellLemmas
pub mod DeliverLemmas
pub mod AgreeLemmas
pub mod AwayLemmas
pub mod JudgeLemmas
mod ShowLemmas
pub mod NoFaultLemmas
