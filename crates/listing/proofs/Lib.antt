pub mod Backs
pub mod Decimals
pub mod Lines
pub mod Longest
