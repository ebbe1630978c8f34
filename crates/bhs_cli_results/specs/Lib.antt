pub mod Appeals
pub mod ContestTables
pub mod HeldLinks
pub mod Recovery
pub mod Reports
