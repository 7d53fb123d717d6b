pub mod Counts
pub mod Row
pub mod Tally
