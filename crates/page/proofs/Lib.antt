pub mod Drafts
pub mod Lookups
pub mod Pages
pub mod Puts
pub mod Settings
pub mod Sounds
pub mod Stores
pub mod Walks
