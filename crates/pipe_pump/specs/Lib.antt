pub mod Pipes
pub mod Hands
pub mod Rings
pub mod Moved
pub mod PipeLaws
