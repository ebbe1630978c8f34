pub mod Known
pub mod Streams
pub mod Reading
pub mod Sending
