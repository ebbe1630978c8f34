pub mod Matches
pub mod Keeping
pub mod Laws
pub mod Games
pub mod Decided
