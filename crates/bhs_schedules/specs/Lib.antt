pub mod Strategies
pub mod Schedules
pub mod Everywhere
pub mod Machines
pub mod Spending
pub mod Dialogues
pub mod Endings
pub mod Examples
