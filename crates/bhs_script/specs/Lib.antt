pub mod Number
pub mod Script
pub mod Instructions
pub mod ScriptFault
pub mod Transcript
