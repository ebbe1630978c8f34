pub mod Asking
pub mod Contests
pub mod Hearing
pub mod LogLines
pub mod Recording
