pub mod NumberLemmas
pub mod LineLemmas
pub mod InstructionLemmas
pub mod PrintLemmas
