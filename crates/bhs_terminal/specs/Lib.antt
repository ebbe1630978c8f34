pub mod Visible
