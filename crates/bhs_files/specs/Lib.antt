pub mod Words
pub mod Shapes
pub mod Reading
pub mod Documents
pub mod Tournaments
pub mod Names
pub mod NetworkFiles
pub mod IgnoredKeys
