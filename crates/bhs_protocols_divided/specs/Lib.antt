pub mod Plans
pub mod Dividing
pub mod DividingLaws
pub mod DividedDiamond
pub mod DividedBound
