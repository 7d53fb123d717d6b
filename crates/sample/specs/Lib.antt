pub mod Axes
pub mod Reader
pub mod Writer
pub mod Walk
pub mod Theorems
