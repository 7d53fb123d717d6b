pub mod Counted
pub mod Reckoned
pub mod Sums
