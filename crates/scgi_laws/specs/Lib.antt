pub mod Orders
pub mod Runs
pub mod Dues
pub mod Ends
