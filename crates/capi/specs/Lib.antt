pub mod Flat
pub mod Theorems
pub mod Version
