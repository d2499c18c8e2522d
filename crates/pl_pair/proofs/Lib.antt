pub mod Ids
pub mod Histories
pub mod Counts
pub mod Steps
pub mod Terms
pub mod Fresh
