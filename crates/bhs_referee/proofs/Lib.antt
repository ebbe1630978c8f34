pub mod FollowLemmas
pub mod VerdictLemmas
pub mod RestLemmas
