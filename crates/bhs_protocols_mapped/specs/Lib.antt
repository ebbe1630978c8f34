pub mod Guides
pub mod Exploring
pub mod MapLaws
pub mod Cuts
pub mod Parts
pub mod Tours
pub mod Diamond
