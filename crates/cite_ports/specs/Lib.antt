pub mod MemoryPorts
pub mod Ports
