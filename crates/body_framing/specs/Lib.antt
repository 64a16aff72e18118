pub mod Places
pub mod Chunked
pub mod ChunkLaws
pub mod Framing
pub mod FramingLaws
