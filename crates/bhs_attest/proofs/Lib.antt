pub mod Untouched
pub mod WakeUpBounds
pub mod Deeds
pub mod LogLemmas
pub mod Schedules
mod TurnLemmas
mod FollowerLemmas
mod FollowLemmas
mod ExampleLemmas
