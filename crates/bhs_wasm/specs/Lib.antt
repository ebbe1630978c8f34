pub mod Contents
pub mod Integers
pub mod States
