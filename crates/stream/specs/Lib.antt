pub mod Framing
pub mod Scan
pub mod Seek
pub mod Silence
pub mod Cutting
pub mod Marks
