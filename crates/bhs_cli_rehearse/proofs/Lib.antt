pub mod AnsweredLemmas
pub mod InteractiveLemmas
pub mod PlayLemmas
