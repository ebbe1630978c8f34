pub mod Charts
pub mod Charting
pub mod Told
pub mod ChartLaws
pub mod Exactly
pub mod Square
pub mod Programs
