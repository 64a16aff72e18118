pub mod Sockets
pub mod Clients
pub mod Devices
pub mod Sets
