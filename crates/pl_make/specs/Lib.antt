pub mod Placed
pub mod Packets
pub mod Generated
pub mod Laws
pub mod Left
pub mod OpenName
