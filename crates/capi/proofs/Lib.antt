pub mod Backs
pub mod Versions
