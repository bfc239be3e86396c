pub mod Faults
pub mod Devices
pub mod Memory
pub mod MemoryOutput
pub mod steps
