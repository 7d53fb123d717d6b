pub mod AxesBytes
pub mod Parts
pub mod Patterns
pub mod Places
pub mod RoundTrips
pub mod Told
pub mod Walks
