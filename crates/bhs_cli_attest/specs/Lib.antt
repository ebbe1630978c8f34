pub mod Lines
pub mod Comparing
pub mod Attesting
pub mod Reports
