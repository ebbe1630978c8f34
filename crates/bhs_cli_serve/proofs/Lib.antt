pub mod ContestLemmas
pub mod RecordingLemmas
