pub mod FaultHomes
pub mod Assembling
pub mod Rooms
pub mod Leveling
