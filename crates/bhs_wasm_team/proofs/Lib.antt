pub mod Agreeing
pub mod Coding
pub mod Distinct
pub mod Modules
pub mod PackingLemmas
