pub mod Grounds
pub mod Replies
pub mod PromiseLaws
