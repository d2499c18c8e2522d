pub mod Fields
pub mod Form
pub mod Front
pub mod Opening
pub mod Reply
