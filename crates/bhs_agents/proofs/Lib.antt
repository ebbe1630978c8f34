mod ModuleLemmas
pub mod WakeUpLemmas
