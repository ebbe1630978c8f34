pub mod Attested
pub mod Followers
pub mod Turns
pub mod Attestations
pub mod Laws
pub mod Example
