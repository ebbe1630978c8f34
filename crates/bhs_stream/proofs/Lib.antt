pub mod ChunkLemmas
pub mod OverMemory
pub mod PutsLemmas
