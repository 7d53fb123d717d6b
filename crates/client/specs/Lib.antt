pub mod Commands
pub mod Handled
pub mod Reader
pub mod Replies
pub mod Rows
pub mod Writer
