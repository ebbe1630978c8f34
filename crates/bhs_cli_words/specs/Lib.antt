pub mod Arguments
pub mod Serving
pub mod Exploring
pub mod CommandLine
pub mod Told
