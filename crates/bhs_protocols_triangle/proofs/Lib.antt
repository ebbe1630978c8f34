pub mod TriangleLemmas
