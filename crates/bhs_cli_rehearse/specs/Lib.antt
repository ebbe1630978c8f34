pub mod Answered
pub mod Interactive
pub mod InteractiveTournaments
pub mod Pushing
pub mod Rehearsal
pub mod RehearsedTournaments
pub mod Shells
