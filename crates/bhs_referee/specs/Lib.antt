pub mod Findings
pub mod Verdicts
pub mod Walks
pub mod Rest
