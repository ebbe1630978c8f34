pub mod Hosting
pub mod Judging
pub mod Pacing
