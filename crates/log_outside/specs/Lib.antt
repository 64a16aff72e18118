pub mod Queues
pub mod Requests
pub mod Exchanges
pub mod Clients
pub mod Follows
