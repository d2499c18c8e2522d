pub mod Lawful
pub mod Merged
pub mod Output
pub mod Sides
pub mod Mixing
pub mod Closing
pub mod Promise
