pub mod Settings
pub mod Draft
pub mod Page
pub mod Lookup
pub mod Sound
pub mod Loading
pub mod Walk
pub mod Theorems
