pub mod CommandLemmas
mod ProtocolLemmas
pub mod ReplyLemmas
mod TalkLemmas
