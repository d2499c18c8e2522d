pub mod Beginnings
pub mod Forms
pub mod Fronts
pub mod Heads
pub mod Lengths
pub mod Pieces
pub mod Reading
