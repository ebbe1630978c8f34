pub mod CommandLines
pub mod ReplyLines
pub mod Protocols
pub mod Talks
pub mod Transcripts
pub mod Charters
