pub mod Archive
pub mod Causes
pub mod Counts
pub mod Listing
pub mod Puts
pub mod Rows
pub mod Schema
pub mod Settled
