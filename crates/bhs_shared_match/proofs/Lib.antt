mod SettleLemmas
mod StrayLemmas
mod LeastLemmas
mod NewLemmas
mod NewsLemmas
pub mod DrawLemmas
pub mod RecordLemmas
pub mod FitLemmas
mod PassLemmas
pub mod SeenLemmas
pub mod TallyLemmas
pub mod ToldLemmas
pub mod CompareLemmas
pub mod EndLemmas
mod WorldLemmas
pub mod PlaceLemmas
mod KeptLemmas
mod FoundLemmas
pub mod PastLogLemmas
pub mod LoopLemmas
mod OnePassLemmas
mod RoomLemmas
pub mod TurnLemmas
