pub mod Hits
pub mod Answers
pub mod Causes
pub mod Steps
