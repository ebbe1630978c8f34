pub mod Each
pub mod Failing
pub mod Matches
pub mod NamesLemmas
pub mod TableKeys
pub mod Values
pub mod IgnoredLemmas
