pub mod CutShort
pub mod FaultPlan
pub mod MemFiles
pub mod Told
