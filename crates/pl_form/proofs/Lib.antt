pub mod ByKind
pub mod Headers
pub mod PrefixList
