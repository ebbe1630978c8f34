pub mod Bodies
pub mod Files
pub mod Modules
pub mod Opcodes
pub mod Types
pub mod Values
