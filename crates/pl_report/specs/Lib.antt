pub mod Json
pub mod Lines
pub mod ServedLines
pub mod Summary
