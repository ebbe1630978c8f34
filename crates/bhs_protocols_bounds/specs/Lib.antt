pub mod Bound
pub mod BoundExamples
