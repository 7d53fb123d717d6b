pub mod Moved
pub mod RowsFound
